pub mod Partners
pub mod Below
