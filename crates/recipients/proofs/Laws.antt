-- The table of recipients and the recipients of a table: each undoes the other, and `sound_table` decides `Sound`.
use mathlib.Core.Path.{◌≡◌, refl, ap, ap₂, sym, subst, ◌∙◌}
use mathlib.Core.Logic.{◌↔◌}
use mathlib.Core.Bool.{true}
use mathlib.Core.List.{List, [], ◌∷◌, ◌++◌}
use Prim.Native.Nat.{ℕ, zero, suc, ◌+◌, ◌*◌, ◌≤◌, ◌<◌}
use native.Mathlib.Nat.{add-zero}
use native.Mathlib.Omega.{arith}
use lib.ListN.{length, take, drop, length-append, take-append-drop, drop_of_length-le}
use lib.Seq.{drop-drop, drop_at, take_at}
use Rattle.prelude.specs.Buffer.{AllBelow}
use Rattle.prelude.specs.Limits.{number_limit, most_recipients}
use Rattle.parts.specs.Parts.{part}
use Rattle.parts.proofs.Laws.{part_fits, part_length}
use Rattle.recipients.specs.Table.{RawRecipient, four_octets, lengths, bodies, table_of, Short, Lists, Sound}
use Rattle.recipients.specs.Parsed.{said_count, four_at, header_length, key_length, body_start, recipient_at, recipients_from}
use Rattle.recipients.specs.Parsed.{recipients_in, sound_table}
use Rattle.recipients.proofs.Numbers.{four_said, four_below, octets_said}
use Rattle.recipients.proofs.Places.{start_first, filled_sound, sound_some, sound_few, sound_fills, lengths_fit}
use Rattle.recipients.proofs.Places.{body_fits, recipients_count}

-- The recipients of their table

-- The recipients from the i-th on stand in a table: their lengths at the i-th place for lengths, their bodies from where
-- the i-th body begins to the end.
record Stands (t : List ℕ) (i : ℕ) (rs : List RawRecipient) : Type 0 where
  behind : List ℕ
  lengths_at : drop (1 + 8 * i) t ≡ lengths rs ++ behind
  bodies_at : drop (body_start t i) t ≡ bodies rs
  ends : body_start t i + length (bodies rs) ≡ length t

module _ (t : List ℕ) (i : ℕ) (r : RawRecipient) (rs : List RawRecipient) (s : Stands t i (r ∷ rs)) where
  abbrev h : ℕ
  h = length r.header

  abbrev k : ℕ
  k = length r.key

  -- the lengths
  later : List ℕ
  later = lengths rs ++ s.behind

  both : drop (1 + 8 * i) t ≡ four_octets h ++ (four_octets k ++ later)
  unfolding lengths later
  both = s.lengths_at

  header_said : header_length t i ≡ h
  unfolding header_length
  header_said = four_said t (1 + 8 * i) h (four_octets k ++ later) both

  key_said : key_length t i ≡ k
  unfolding key_length
  key_said =
      four_said t (1 + 8 * i + 4) k later (sym (drop-drop 4 (1 + 8 * i) t) ∙ ap (λ (l : List ℕ). drop 4 l) both)

  -- the bodies
  abbrev b : ℕ
  b = body_start t i

  sum : b + (h + (k + length (bodies rs))) ≡ length t
  unfolding bodies
  sum = omega (arith, s.ends, length-append r.header (r.key ++ bodies rs), length-append r.key (bodies rs))

  header_there : drop b t ≡ r.header ++ (r.key ++ bodies rs)
  unfolding bodies
  header_there = s.bodies_at

  key_there : drop (b + h) t ≡ r.key ++ bodies rs
  key_there = sym (drop-drop h b t) ∙ ap (drop h) header_there ∙ drop_at r.header (r.key ++ bodies rs) h refl

  next_there : drop (b + h + k) t ≡ bodies rs
  next_there = sym (drop-drop k (b + h) t) ∙ ap (drop k) key_there ∙ drop_at r.key (bodies rs) k refl

  header_is_lem : part t b (header_length t i) ≡ r.header
  header_is_lem =
      ap (part t b) header_said ∙ part_fits t b h (omega (arith, sum)) ∙ ap (take h) header_there
      ∙ take_at r.header (r.key ++ bodies rs) h refl

  key_is_lem : part t (b + header_length t i) (key_length t i) ≡ r.key
  key_is_lem =
      ap₂ (λ (x y : ℕ). part t (b + x) y) header_said key_said ∙ part_fits t (b + h) k (omega (arith, sum))
      ∙ ap (take k) key_there ∙ take_at r.key (bodies rs) k refl

  recipient_is : recipient_at t i ≡ r
  unfolding recipient_at
  recipient_is = ap₂ (λ (x y : List ℕ). record { header = x; key = y }) header_is_lem key_is_lem

  next_start : body_start t (suc i) ≡ b + h + k
  unfolding body_start
  next_start = ap₂ (λ (x y : ℕ). b + x + y) header_said key_said

  stands_next : Stands t (suc i) rs
  unfolding later
  stands_next =
      let eights : 1 + 8 * suc i ≡ 1 + 8 * i + 8 = omega arith in
      record {
        behind = s.behind;
        lengths_at = ap (λ (n : ℕ). drop n t) eights ∙ sym (drop-drop 8 (1 + 8 * i) t) ∙ ap (λ (l : List ℕ). drop 8 l) both;
        bodies_at = ap (λ (n : ℕ). drop n t) next_start ∙ next_there;
        ends = omega (arith, next_start, sum);
      }

lengths_length : (rs : List RawRecipient) → length (lengths rs) ≡ 8 * length rs
unfolding lengths
lengths_length [] = refl
lengths_length (r ∷ rs) = omega (arith, lengths_length rs)

module _ (rs : List RawRecipient) where
  behind_lengths : drop (1 + 8 * length rs) (table_of rs) ≡ bodies rs
  unfolding table_of
  behind_lengths =
      let one_more : 1 + 8 * length rs ≡ suc (8 * length rs) = omega arith in
      ap (λ (n : ℕ). drop n (length rs ∷ (lengths rs ++ bodies rs))) one_more
      ∙ drop_at (lengths rs) (bodies rs) (8 * length rs) (lengths_length rs)

  table_length : length (table_of rs) ≡ 1 + 8 * length rs + length (bodies rs)
  unfolding table_of
  table_length = omega (arith, length-append (lengths rs) (bodies rs), lengths_length rs)

  stands_first : Stands (table_of rs) 0 rs
  unfolding table_of body_start
  stands_first = record {
    behind = bodies rs;
    lengths_at = refl;
    bodies_at = behind_lengths;
    ends = sym table_length;
  }

from_stands : (t : List ℕ) (i : ℕ) (rs : List RawRecipient) → Stands t i rs → recipients_from t (length rs) i ≡ rs
unfolding recipients_from
from_stands t i [] s = refl
from_stands t i (r ∷ rs) s =
    ap₂ (λ (x : RawRecipient) (xs : List RawRecipient). x ∷ xs) (recipient_is t i r rs s)
    (from_stands t (suc i) rs (stands_next t i r rs s))

end_stands : (t : List ℕ) (i : ℕ) (rs : List RawRecipient) → Stands t i rs → body_start t (i + length rs) ≡ length t
unfolding bodies
end_stands t i [] s = ap (body_start t) (add-zero i) ∙ sym (add-zero (body_start t i)) ∙ s.ends
end_stands t i (r ∷ rs) s =
    let place : i + suc (length rs) ≡ suc i + length rs = omega arith in
    ap (body_start t) place ∙ end_stands t (suc i) rs (stands_next t i r rs s)

-- Reading the table of some recipients gives them back.
pub table_reads : (rs : List RawRecipient) → recipients_in (table_of rs) ≡ rs
unfolding recipients_in table_of
table_reads rs = from_stands (table_of rs) 0 rs (stands_first rs)

-- The table of the recipients of a table

module _ (t : List ℕ) (octets : AllBelow 256 t) (sound : sound_table t ≡ true) where
  module _ (i : ℕ) (inside : i < said_count t) where
    fits : body_start t i + header_length t i + key_length t i ≤ length t
    fits = body_fits t sound i inside

    header_size_lem : length (recipient_at t i).header ≡ header_length t i
    unfolding recipient_at
    header_size_lem = part_length t (body_start t i) (header_length t i) (omega (arith, fits))

    key_size_lem : length (recipient_at t i).key ≡ key_length t i
    unfolding recipient_at
    key_size_lem = part_length t (body_start t i + header_length t i) (key_length t i) (omega (arith, fits))

    short_here : (length (recipient_at t i).header < number_limit) × (length (recipient_at t i).key < number_limit)
    unfolding header_length key_length
    short_here = (
      omega (arith, header_size_lem, four_below t octets (1 + 8 * i)),
      omega (arith, key_size_lem, four_below t octets (1 + 8 * i + 4)),
    )

    lengths_here : four_octets (length (recipient_at t i).header)
        ++ (four_octets (length (recipient_at t i).key) ++ drop (1 + 8 * suc i) t)
        ≡ drop (1 + 8 * i) t
    unfolding header_length key_length
    lengths_here =
        let eights : 1 + 8 * suc i ≡ 1 + 8 * i + 4 + 4 = omega arith in
        let room = lengths_fit t sound in
        ap₂ (λ (x y : ℕ). four_octets x ++ (four_octets y ++ drop (1 + 8 * suc i) t)) header_size_lem key_size_lem
        ∙ ap (λ (n : ℕ). four_octets (four_at t (1 + 8 * i)) ++ (four_octets (four_at t (1 + 8 * i + 4)) ++ drop n t)) eights
        ∙ ap (λ (l : List ℕ). four_octets (four_at t (1 + 8 * i)) ++ l) (octets_said t octets (1 + 8 * i + 4) (omega arith))
        ∙ octets_said t octets (1 + 8 * i) (omega arith)

    body_here : (recipient_at t i).header ++ ((recipient_at t i).key ++ drop (body_start t (suc i)) t) ≡ drop (body_start t i) t
    unfolding recipient_at body_start
    body_here =
        let b = body_start t i in
        let h = header_length t i in
        let k = key_length t i in
        let last : take k (drop (b + h) t) ++ drop (b + h + k) t ≡ drop (b + h) t =
        ap (λ (l : List ℕ). take k (drop (b + h) t) ++ l) (sym (drop-drop k (b + h) t)) ∙ take-append-drop k (drop (b + h) t) in
        ap₂ (λ (x y : List ℕ). x ++ (y ++ drop (b + h + k) t)) (part_fits t b h (omega (arith, fits)))
        (part_fits t (b + h) k (omega (arith, fits)))
        ∙ ap (λ (l : List ℕ). take h (drop b t) ++ l) (last ∙ sym (drop-drop h b t)) ∙ take-append-drop h (drop b t)

  short_from : (n i : ℕ) → n + i ≡ said_count t → Short (recipients_from t n i)
  unfolding recipients_from
  short_from zero i e = tt
  short_from (suc n) i e = (short_here i (omega (arith, e)), short_from n (suc i) (omega (arith, e)))

  lengths_from : (n i : ℕ) → n + i ≡ said_count t →
      lengths (recipients_from t n i) ++ drop (1 + 8 * said_count t) t ≡ drop (1 + 8 * i) t
  unfolding recipients_from lengths
  lengths_from zero i e =
      let same : said_count t ≡ i = omega (arith, e) in
      ap (λ (m : ℕ). drop (1 + 8 * m) t) same
  lengths_from (suc n) i e =
      let r = recipient_at t i in
      ap (λ (l : List ℕ). four_octets (length r.header) ++ (four_octets (length r.key) ++ l))
      (lengths_from n (suc i) (omega (arith, e)))
      ∙ lengths_here i (omega (arith, e))

  bodies_from : (n i : ℕ) → n + i ≡ said_count t → bodies (recipients_from t n i) ≡ drop (body_start t i) t
  unfolding recipients_from bodies
  bodies_from zero i e =
      let same : said_count t ≡ i = omega (arith, e) in
      let end : length t ≤ body_start t i = omega (arith, sound_fills t sound, ap (body_start t) same) in
      sym (drop_of_length-le t end)
  bodies_from (suc n) i e =
      let r = recipient_at t i in
      ap (λ (l : List ℕ). r.header ++ (r.key ++ l)) (bodies_from n (suc i) (omega (arith, e)))
      ∙ body_here i (omega (arith, e))

module _ (n : ℕ) (rest : List ℕ) (octets : AllBelow 256 (n ∷ rest)) (sound : sound_table (n ∷ rest) ≡ true) where
  rebuilt : table_of (recipients_in (n ∷ rest)) ≡ n ∷ rest
  unfolding table_of recipients_in
  rebuilt =
      let t = n ∷ rest in
      let rs = recipients_from t n 0 in
      ap (λ (m : ℕ). m ∷ (lengths rs ++ bodies rs)) (recipients_count t)
      ∙ ap (λ (l : List ℕ). n ∷ (lengths rs ++ l))
      (bodies_from t octets sound n 0 (add-zero n) ∙ ap (λ (m : ℕ). drop m t) (start_first t))
      ∙ ap (λ (l : List ℕ). n ∷ l) (lengths_from t octets sound n 0 (add-zero n))

-- The table of the recipients that a sound table has is that table.
pub reads_table : (t : List ℕ) → AllBelow 256 t → sound_table t ≡ true → table_of (recipients_in t) ≡ t
reads_table [] octets sound = absurd (omega (arith, sound_some [] sound))
reads_table (n ∷ rest) octets sound = rebuilt n rest octets sound

-- Deciding

found : (t : List ℕ) → AllBelow 256 t → sound_table t ≡ true → Lists t (recipients_in t)
unfolding recipients_in
found t octets sound = record {
  some = omega (arith, recipients_count t, sound_some t sound);
  few = omega (arith, recipients_count t, sound_few t sound);
  short = short_from t octets sound (said_count t) 0 (add-zero (said_count t));
  octets = reads_table t octets sound;
}

accepted : (rs : List RawRecipient) → 1 ≤ length rs → length rs ≤ most_recipients → sound_table (table_of rs) ≡ true
unfolding table_of
accepted rs some few =
    let all : length rs ≡ 0 + length rs = omega arith in
    filled_sound (table_of rs) some few (ap (body_start (table_of rs)) all ∙ end_stands (table_of rs) 0 rs (stands_first rs))

-- `sound_table` decides whether a table is sound.
pub sound_decides : (t : List ℕ) → AllBelow 256 t → (sound_table t ≡ true) ↔ Sound t
sound_decides t octets = (
  λ e. (recipients_in t, found t octets e),
  λ s. subst (λ (l : List ℕ). sound_table l ≡ true) s.1.octets (accepted s.0 s.1.some s.1.few),
)

-- A sound table has just the recipients that are read from it.
pub sound_once : (t : List ℕ) (rs : List RawRecipient) → Lists t rs → recipients_in t ≡ rs
sound_once t rs l = ap recipients_in (sym l.octets) ∙ table_reads rs
