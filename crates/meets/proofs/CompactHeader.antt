-- Refusals 6 to 9 on a decoded protected header: it is short and read, has few members, and no name twice.
-- Its members stand where its entries say.
use mathlib.Core.Path.{◌≡◌, refl}
use mathlib.Core.Logic.{◌↔◌}
use mathlib.Core.List.{List}
use Prim.Native.Nat.{ℕ}
use lib.ListN.{length}
use borrow.Author.Tests.{ltb-false, le-ltb}
use Rattle.prelude.specs.Any.{any}
use Rattle.rows.specs.Rows.{read_texts}
use Rattle.jose.specs.Registered.{registered}
use Rattle.prelude.specs.Refusals.{first}
use Rattle.headers.specs.Headers.{text_order, outermost, protected_entries, object_order}
use Rattle.meets.specs.Meets.{Object, Protected, members_read}
use Rattle.meets.proofs.OneForOne.{OneForOne}
use Rattle.meets.proofs.Rows.{unread_decides, outermost_stand}
use Rattle.meets.proofs.Deciding.{first_none}
use Rattle.meets.proofs.Entries.{EntryStands, entries_stand}
use Rattle.meets.proofs.NamesApart.{object_decided}

-- 6 and 7: it is short and read.
pub text_decided : (header : List ℕ) → (first (text_order header) ≡ 0) ↔ Protected header
unfolding text_order any
text_decided header =
    let t = first_none (text_order header) refl in
    let r = unread_decides header in (
      (λ e. let h = t.0 e in record { short = ltb-false 4096 (length header) h.0; reading = r.0 h.1.0 }),
      (λ p. t.1 (le-ltb 4096 (length header) p.short, (r.1 p.reading, tt))),
    )

-- Its members stand where its entries say.
pub protected_stands : (header message : List ℕ) (p : Protected header) →
    OneForOne (EntryStands registered (read_texts header message) 0) (members_read p) (protected_entries header)
unfolding protected_entries
protected_stands header message p =
    entries_stand registered (read_texts header message) 0 (members_read p) (outermost header) (outermost_stand header p.reading)

-- 8 and 9 on it.
pub protected_object_lem : (header : List ℕ) (p : Protected header) →
    (first (object_order header (protected_entries header)) ≡ 0) ↔ Object (members_read p)
protected_object_lem header p =
    object_decided registered header 0 (members_read p) (protected_entries header) (protected_stands header header p)
