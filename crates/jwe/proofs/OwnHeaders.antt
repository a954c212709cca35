-- Own headers collected into one table, 32 entries apart: one more leaves those before it as they are. And the
-- parameters of a recipient, its own copied behind the others: the entries that the table has then, and their
-- fingerprints.
use mathlib.Core.Path.{◌≡◌, refl, ap, ap₂, sym, subst, subst₂, ◌∙◌}
use mathlib.Core.Bool.{Bool, cond}
use mathlib.Core.List.{List, ◌++◌}
use Prim.Native.Nat.{ℕ, ◌+◌, ◌-◌, ◌*◌, ◌≤◌, ◌<◌}
use native.Mathlib.Nat.{add-zero}
use native.Mathlib.Omega.{arith}
use lib.ListN.{length, take, drop, get_or, set, length-drop, take-append-drop}
use lib.Seq.{length-take-le, take-append-le, drop-append-le, take_at, drop_at, get_or-set_same, get_or-set_other, get_or-drop}
use borrow.Author.Count.{below_none, below_more}
use borrow.Author.Tests.{le-leb}
use Rattle.prelude.specs.Buffer.{written}
use Rattle.prelude.proofs.Writing.{written_length}
use Rattle.prelude.specs.Limits.{most_members}
use Rattle.rows.specs.Rows.{Entry, Texts, read_texts}
use Rattle.rows.specs.Tables.{entries_of, width, header_table}
use Rattle.rows.specs.Inner.Prints.{flat, collected_table, Printed}
use Rattle.rows.proofs.Entries.{flat_length, entries_flat, entries_front, entries_more}
use Rattle.rows.proofs.Printing.{StandIn, entries_stand, printed_kept, printed_more}
use Rattle.jose.specs.Registered.{registered}
use Rattle.shape.specs.Inner.Answers.{recipient_width}
use Rattle.headers.specs.Headers.{members_of, header_entries}
use Rattle.jwe.specs.General.{own_entries}
use Rattle.jwe.specs.Inner.Stages.{recipient_at, own_at, LaidAt, OwnAt, Owned}

-- A part of a buffer: what is written there ..
part_written : (n at : ℕ) (xs t : List ℕ) → length xs ≡ n → at ≤ length t → take n (drop at (written at xs t)) ≡ xs
unfolding written
part_written n at xs t e room =
    ap (take n) (drop_at (take at t) _ at (length-take-le at t room)) ∙ take_at xs (drop (at + length xs) t) n e

-- .. and, where it ends before what is written, what was there.
part_kept : (n start at : ℕ) (xs t : List ℕ) → start + n ≤ at → at ≤ length t →
    take n (drop start (written at xs t)) ≡ take n (drop start t)
unfolding written
part_kept n start at xs t h room =
    let short : length (take at t) ≡ at = length-take-le at t room in
    let fits : n ≤ length (drop start (take at t)) = omega (arith, length-drop start (take at t)) in
    let front : (rest : List ℕ) → take n (drop start (take at t ++ rest)) ≡ take n (drop start (take at t)) =
    λ rest. ap (take n) (drop-append-le start (take at t) rest (omega arith))
    ∙ take-append-le n (drop start (take at t)) rest fits in
    front (xs ++ drop (at + length xs) t)
    ∙ sym (ap (λ (l : List ℕ). take n (drop start l)) (sym (take-append-drop at t)) ∙ front (drop at t))

-- A table into which few entries were collected.
pub few_collected : (from : ℕ) (s : List ℕ) (es : List Entry) (table : List ℕ) → length es ≤ 32 →
    collected_table from s es table ≡ written (from * width) (flat s es) table
unfolding collected_table
few_collected from s es table h =
    ap (λ (b : Bool). cond b (written (from * width) (flat s es) table) table) (le-leb (length es) 32 h)

module _ (message of : List ℕ) where
  pub own_none : (own counts : List ℕ) → Owned 0 message of own counts
  own_none own counts = below_none (OwnAt message of own counts)

  -- One more.
  module _ (i count : ℕ) (own counts last : List ℕ) (few : i < 8) (long : length own ≡ 2048) (eight : length counts ≡ 8)
      (counted : count ≡ length (own_at message of i)) (short : count ≤ 32)
      (left : last ≡ collected_table (i * most_members) message (own_at message of i) own) where
    abbrev numbers : List ℕ
    numbers = flat message (own_at message of i)

    last_is : last ≡ written (i * header_table) numbers own
    last_is =
        let at : i * most_members * width ≡ i * header_table = omega arith in
        left ∙ few_collected (i * most_members) message (own_at message of i) own (omega (arith, counted, short))
        ∙ ap (λ (n : ℕ). written n numbers own) at

    this : OwnAt message of last (set counts i count) i
    this =
        let put : get_or (set counts i count) i 0 ≡ count = get_or-set_same counts i count 0 (omega arith) in
        let size : length numbers ≡ get_or (set counts i count) i 0 * width =
        flat_length message (own_at message of i) ∙ ap (λ (n : ℕ). n * width) (sym (put ∙ counted)) in
        record {
          few = omega (arith, put, short);
          counted = put ∙ counted;
          entries = ap (λ (l : List ℕ). take (get_or (set counts i count) i 0 * width) (drop (i * header_table) l)) last_is
              ∙ part_written _ (i * header_table) numbers own size (omega arith);
        }

    others : Owned i message of own counts → Owned i message of last (set counts i count)
    others all k below =
        let same : get_or (set counts i count) k 0 ≡ get_or counts k 0 =
        get_or-set_other counts i k count 0 (λ (e : k ≡ i). omega (arith, e, below)) in
        let was = all k below in
        let kept = part_kept (get_or counts k 0 * width) (k * header_table) (i * header_table) numbers own
        (omega (arith, was.few)) (omega arith) in
        record {
          few = omega (arith, same, was.few);
          counted = same ∙ was.counted;
          entries = ap₂ (λ (n : ℕ) (l : List ℕ). take (n * width) (drop (k * header_table) l)) same last_is ∙ kept
              ∙ was.entries;
        }

    pub own_more : Owned i message of own counts → Owned (i + 1) message of last (set counts i count)
    own_more all = below_more (OwnAt message of last (set counts i count)) i (others all) this

-- A recipient's own entries as they are copied, and where its own header stands.

pub own_part : (own : List ℕ) (start count : ℕ) →
    take (start + count * width - start) (drop start own) ≡ take (count * width) (drop start own)
own_part own start count =
    let size : start + count * width - start ≡ count * width = omega arith in
    ap (λ (n : ℕ). take n (drop start own)) size

pub own_is : (message of : List ℕ) (i : ℕ) →
    header_entries message 2 (get_or of (i * recipient_width) 0) ≡ own_at message of i
unfolding own_entries
own_is message of i =
    ap (header_entries message 2) (ap (λ (n : ℕ). get_or of n 0) (sym (add-zero (i * recipient_width))) ∙ sym (get_or-drop (i * recipient_width) of 0 0))

-- They stand in the message.
pub own_stands : (message of : List ℕ) (i : ℕ) (header : List ℕ) →
    StandIn (read_texts header message) message (own_at message of i)
unfolding own_entries header_entries
own_stands message of i header =
    let start = (recipient_at (drop (i * recipient_width) of)).header in
    entries_stand registered (read_texts header message) message 2 (members_of message start) refl

-- Entries where they stand in their table.
pub laid_entries : (message own counts : List ℕ) (its : List Entry) (i : ℕ) → LaidAt message its own counts i →
    entries_of (get_or counts i 0) (drop (i * header_table) own) ≡ its
laid_entries message own counts its i o =
    let part = drop (i * header_table) own in
    let n = get_or counts i 0 in
    ap (entries_of n) (sym (take-append-drop (n * width) part))
    ∙ ap₂ (λ (m : ℕ) (l : List ℕ). entries_of m (l ++ drop (n * width) part)) o.counted o.entries
    ∙ entries_flat message its (drop (n * width) part)

-- The parameters of a recipient, its own ones copied behind the others.
module _ (message own counts : List ℕ) (its : List Entry) (i front n : ℕ) (table last : List ℕ)
    (o : LaidAt message its own counts i) (room : front * width + 256 ≤ length table) (count : n ≡ front + get_or counts i 0)
    (left : last ≡ written (front * width) (take (get_or counts i 0 * width) (drop (i * header_table) own)) table) where
  wrote : last ≡ written (front * width) (flat message its) table
  wrote = left ∙ ap (λ (l : List ℕ). written (front * width) l table) o.entries

  many : n ≡ front + length its
  many = count ∙ ap (λ (k : ℕ). front + k) o.counted

  pub gathered : entries_of n last ≡ entries_of front table ++ its
  gathered = ap₂ entries_of many wrote ∙ entries_more front message its table (omega arith)

  pub gathered_length : length last ≡ length table
  gathered_length =
      ap length wrote
      ∙ written_length (front * width) (flat message its) table
      (omega (arith, flat_length message its, o.counted, o.few))

  pub gathered_room : n * width ≤ length last
  gathered_room = omega (arith, gathered_length, count, o.few)

  pub gathered_front : entries_of front last ≡ entries_of front table
  unfolding written
  gathered_front = ap (entries_of front) wrote ∙ entries_front front table _ (omega arith)

  -- Their fingerprints are those of their names, where those of the others are; and those of the others stay.
  module _ (ts : Texts) (p : Printed ts front table) where
    pub gathered_printed : StandIn ts message its → Printed ts n last
    gathered_printed stands =
        subst₂ (Printed ts) (sym many) (sym wrote) (printed_more ts front message its table (omega arith) stands p)

    pub gathered_kept : Printed ts front last
    gathered_kept =
        subst (Printed ts front) (sym wrote) (printed_kept ts front (flat message its) table (omega arith) p)
