-- What is known of a message that has been judged serves a side: its entries read, and have the fingerprints of their names.
use Rattle.std.proofs.Common.{◌≡◌, sym, subst, List, ℕ}
use Rattle.rows.specs.Rows.{Entry, read_texts}
use Rattle.rows.specs.Tables.{entries_of}
use Rattle.rows.specs.Inner.Prints.{Printed}
use Rattle.jwe.specs.Judge.{held}
use Rattle.matching.specs.Inner.Places.{EachReads}

module _ (message header : List ℕ) (count : ℕ) (table : List ℕ) (decoded : header ≡ (held message).header) where
  pub printed_side : Printed (read_texts (held message).header message) count table → Printed (read_texts header message) count table
  printed_side p = subst (λ (h : List ℕ). Printed (read_texts h message) count table) (sym decoded) p

  pub reads_side : (es : List Entry) → entries_of count table ≡ es → EachReads (read_texts (held message).header message) es →
      EachReads (read_texts header message) (entries_of count table)
  reads_side es e r =
      subst (λ (h : List ℕ). EachReads (read_texts h message) (entries_of count table)) (sym decoded)
      (subst (EachReads (read_texts (held message).header message)) (sym e) r)
