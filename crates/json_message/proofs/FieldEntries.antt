-- The entries of an object that is put together of fields, where it stands in a message: by their names' numbers, and at which
-- place the one with a number has its value.
use mathlib.Core.Path.{◌≡◌, refl, ap, ap₂, ◌∙◌}
use mathlib.Core.List.{List, [], ◌∷◌, ◌++◌}
use mathlib.Core.Bool.{Bool, true, false, ◌||◌, cond}
use Prim.Native.Nat.{ℕ, suc, ◌+◌, ◌≤◌}
use native.Mathlib.Omega.{arith}
use lib.ListN.{length, length-append, length-drop, take, drop}
use lib.Seq.{take-append_seam}
use lib.Dec.{eqb, leb}
use Rattle.prelude.specs.Limits.{levels}
use Rattle.parts.specs.Parts.{part}
use Rattle.parts.proofs.Laws.{part_fits}
use Rattle.grammar.specs.Reader.{members_at}
use Rattle.names.specs.Names.{number_in}
use Rattle.prelude.specs.Any.{any}
use Rattle.rows.specs.Rows.{Entry, entries_in, present, value_of}
use Rattle.shape.specs.Shape.{member_names, member_entries}
use Rattle.json_text.proofs.Embedded.{Stands}
use Rattle.json_text.proofs.Made.{Field, deepest_field}
use Rattle.json_text.proofs.Fields.{row_from, behind_field, rows_from, object_text, object_members}
use Rattle.json_text.proofs.Fields.{FieldsStand, object_fields}

abbrev pub number_of : Field → ℕ
number_of f = number_in member_names f.name

abbrev pub entry_from : ℕ → Field → Entry
entry_from n f = record { origin = 1; member = row_from n f; number = number_of f }

unfoldable pub entries_from : ℕ → List Field → List Entry
entries_from n [] = []
entries_from n (f ∷ fs) = entry_from n f ∷ entries_from (behind_field n f) fs

-- What stands somewhere is the part there.

none_cases : (b : Bool) (w : List ℕ) → cond b (take 0 w) [] ≡ []
none_cases true w = refl
none_cases false w = refl

pub part_none : (s : List ℕ) (m : ℕ) → part s m 0 ≡ []
unfolding part
part_none s m = none_cases (leb (m + 0) (length s)) (drop m s)

pub part_stands : {s : List ℕ} {m : ℕ} {w : List ℕ} → Stands s m w → part s m (length w) ≡ w
part_stands {s} {m} {w = []} h = part_none s m
part_stands {s} {m} {w = c ∷ w} h =
    part_fits s m (suc (length w)) (omega (arith, length-drop m s, ap length h.is, length-append (c ∷ w) h.after))
    ∙ ap (take (suc (length w))) h.is
    ∙ take-append_seam (c ∷ w) h.after

entries_are : (s : List ℕ) (n : ℕ) (fs : List Field) → FieldsStand s n fs →
    entries_in member_names s 1 (rows_from n fs) ≡ entries_from n fs
unfolding entries_in entries_from rows_from FieldsStand
entries_are s n [] h = refl
entries_are s n (f ∷ fs) h =
    ap₂ ◌∷◌ (ap (λ w. record {
      origin = 1;
      member = row_from n f;
      number = number_in member_names w;
    }) (part_stands h.0.name)) (entries_are s (behind_field n f) fs h.1)

-- An object of the message.
pub object_entries : {s : List ℕ} {m : ℕ} (fs : List Field) → Stands s m (object_text fs) → suc (deepest_field fs) ≤ levels →
    member_entries s (members_at levels s m) ≡ entries_from (m + 1) fs
unfolding member_entries
object_entries {s} {m} fs h d =
    ap (entries_in member_names s 1) (object_members levels fs h d) ∙ entries_are s (m + 1) fs (object_fields fs h)

-- Fields one behind the other.

unfoldable pub past : ℕ → List Field → ℕ
past n [] = n
past n (f ∷ fs) = past (behind_field n f) fs

pub entries_append : (n : ℕ) (xs ys : List Field) → entries_from n (xs ++ ys)
    ≡ entries_from n xs ++ entries_from (past n xs) ys
unfolding entries_from past
entries_append n [] ys = refl
entries_append n (x ∷ xs) ys = ap (λ z. entry_from n x ∷ z) (entries_append (behind_field n x) xs ys)

pub stand_front : (s : List ℕ) (n : ℕ) (xs ys : List Field) → FieldsStand s n (xs ++ ys) → FieldsStand s n xs
unfolding FieldsStand
stand_front s n [] ys h = tt
stand_front s n (x ∷ xs) ys h = (h.0, stand_front s (behind_field n x) xs ys h.1)

pub stand_past : (s : List ℕ) (n : ℕ) (xs ys : List Field) → FieldsStand s n (xs ++ ys) → FieldsStand s (past n xs) ys
unfolding FieldsStand past
stand_past s n [] ys h = h
stand_past s n (x ∷ xs) ys h = stand_past s (behind_field n x) xs ys h.1

pub past_later : (n : ℕ) (xs : List Field) → n ≤ past n xs
unfolding past
past_later n [] = omega arith
past_later n (x ∷ xs) = omega (arith, past_later (behind_field n x) xs)

-- By number.

abbrev pub has_number : ℕ → Field → Bool
has_number k f = eqb (number_of f) k

pub present_from : (k n : ℕ) (fs : List Field) → present k (entries_from n fs) ≡ any (has_number k) fs
unfolding present any entries_from
present_from k n [] = refl
present_from k n (f ∷ fs) = ap (λ b. has_number k f || b) (present_from k (behind_field n f) fs)

pub or_false : (a b : Bool) → (a || b) ≡ false → (a ≡ false) × (b ≡ false)
or_false true b e = (e, cc)
or_false false b e = (refl, e)

pub or_none : (b : Bool) → (b || false) ≡ b
or_none true = refl
or_none false = refl

pub value_past : (k n : ℕ) (xs ys : List Field) → any (has_number k) xs ≡ false →
    value_of k (entries_from n (xs ++ ys)) ≡ value_of k (entries_from (past n xs) ys)
unfolding value_of any entries_from past
value_past k n [] ys e = refl
value_past k n (x ∷ xs) ys e =
    let w = or_false (has_number k x) (any (has_number k) xs) e in
    ap (λ b. cond b (record { start = (row_from n x).value_start; size = (row_from n x).value_size })
    (value_of k (entries_from (behind_field n x) (xs ++ ys)))) w.0
    ∙ value_past k (behind_field n x) xs ys w.1

pub value_none : (k n : ℕ) (fs : List Field) → any (has_number k) fs ≡ false →
    value_of k (entries_from n fs) ≡ record { start = 0; size = 0 }
unfolding value_of any entries_from
value_none k n [] e = refl
value_none k n (f ∷ fs) e =
    let w = or_false (has_number k f) (any (has_number k) fs) e in
    ap (λ b. cond b (record { start = (row_from n f).value_start; size = (row_from n f).value_size })
    (value_of k (entries_from (behind_field n f) fs))) w.0
    ∙ value_none k (behind_field n f) fs w.1

pub value_here : (k n : ℕ) (f : Field) (fs : List Field) → has_number k f ≡ true →
    value_of k (entries_from n (f ∷ fs)) ≡ record { start = (row_from n f).value_start; size = (row_from n f).value_size }
unfolding value_of entries_from
value_here k n f fs e =
    ap (λ b. cond b (record { start = (row_from n f).value_start; size = (row_from n f).value_size })
    (value_of k (entries_from (behind_field n f) fs))) e

pub any_append : {A : Type 0} (p : A → Bool) (xs ys : List A) → any p (xs ++ ys) ≡ (any p xs || any p ys)
unfolding any
any_append p [] ys = refl
any_append p (x ∷ xs) ys = ap (λ b. p x || b) (any_append p xs ys) ∙ or_assoc (p x) (any p xs) (any p ys)
  where
    or_assoc : (a b c : Bool) → (a || (b || c)) ≡ ((a || b) || c)
    or_assoc true b c = refl
    or_assoc false b c = refl
