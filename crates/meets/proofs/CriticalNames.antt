-- Refusal 17: the elements of `crit` are names, as the rule asks, exactly where no test on them refuses.
use mathlib.Core.Path.{◌≡◌, refl, ap, ap₂, sym, subst, ◌∙◌}
use mathlib.Core.Bool.{true, false, not, ◌||◌, true≢false}
use mathlib.Core.Logic.{◌↔◌}
use mathlib.Core.List.{List, [], ◌∷◌, map}
use Prim.Native.Nat.{ℕ}
use native.Mathlib.Omega.{arith}
use lib.ListN.{length}
use lib.Dec.{eqb}
use borrow.Author.Tests.{eqb-true, not-false}
use Rattle.prelude.specs.Ascii.{ascii}
use Rattle.grammar.specs.Grammar.{Str, Value, string}
use Rattle.grammar.specs.Places.{Element, kind}
use Rattle.grammar.specs.Strings.{SayAlike, HasOctets}
use Rattle.grammar.specs.Spellings.{equal}
use Rattle.grammar.specs.Reader.{elements_at}
use Rattle.grammar.specs.Bounds.{Every}
use Rattle.names.specs.Names.{number_in}
use Rattle.prelude.specs.Any.{any, any_pair}
use Rattle.rows.specs.Rows.{Entry, Texts, text_of, name_in, numbered, name_says}
use Rattle.jose.specs.Registered.{registered, crit}
use Rattle.jose.specs.HeaderRules.{spelled_element, unknown, same_element, misplaced, is_empty, wrong_crit}
use Rattle.jose.specs.HeaderRules.{critical}
use Rattle.meets.specs.Members.{Member, elements_of, Some, Among, Distinct}
use Rattle.meets.specs.Rules.{EveryNamed, array_names, OfKind, Critical}
use Rattle.meets.proofs.OneForOne.{OneForOne, zip_into, zip_map_left}
use Rattle.meets.proofs.Standing.{ElementStands, kind_string}
use Rattle.meets.proofs.Rows.{elements_stand}
use Rattle.meets.proofs.Saying.{Spells, string_spells, alike_spells}
use Rattle.meets.proofs.Deciding.{FalseWhere, not_where, not_false_where, where_is, neither, where_asked}
use Rattle.meets.proofs.Deciding.{or_false, every_both, zip_with, every_where, some_where}
use Rattle.meets.proofs.Numbering.{number_where, among_of}
use Rattle.meets.proofs.Entries.{Seen, numbered_where, distinct_where}
use Rattle.meets.proofs.Parameters.{crit_number}

-- A string and the element where it stands.
record StringStands (s : List ℕ) (x : Str) (y : Element) : Type 0 where
  kinds : y.kind ≡ 2
  spells : Spells (spelled_element s y) x

string_element : (s : List ℕ) (x : Str) (y : Element) → ElementStands s (string x) y → StringStands s x y
unfolding kind
string_element s x y r = record { kinds = r.kinds; spells = string_spells s x y.start y.size r.stands }

strings_stand : (s : List ℕ) (xs : List Str) (ys : List Element) → OneForOne (ElementStands s) (map string xs) ys →
    OneForOne (StringStands s) xs ys
strings_stand s xs ys z =
    zip_into (λ x y. ElementStands s (string x) y) (StringStands s) (string_element s) xs ys
    ((zip_map_left (ElementStands s) string xs ys).1 z)

-- Where every element is known, all are strings.
all_strings : (known : List (List ℕ)) (s : List ℕ) (vs : List Value) (ys : List Element) →
    OneForOne (ElementStands s) vs ys → any (unknown known s) ys ≡ false → (xs : List Str) × (vs ≡ map string xs)
unfolding any
all_strings known s [] [] z e = ([], refl)
all_strings known s [] (y ∷ ys) z e = absurd z
all_strings known s (v ∷ vs) [] z e = absurd z
all_strings known s (v ∷ vs) (y ∷ ys) z e =
    let h = (or_false (unknown known s y) (any (unknown known s) ys)).0 e in
    let k = ((or_false (not (eqb y.kind 2)) (eqb (number_in known (spelled_element s y)) 0)).0 h.0).0 in
    let i = eqb-true y.kind 2 (not-false (eqb y.kind 2) k) in
    let (x, p) = kind_string v (sym z.0.kinds ∙ i) in
    let (xs, q) = all_strings known s vs ys z.1 h.1 in
    (x ∷ xs, ap₂ (λ (u : Value) (us : List Value). u ∷ us) p q)

empty_where : (s : List ℕ) (xs : List Str) (ys : List Element) → OneForOne (StringStands s) xs ys →
    FalseWhere (is_empty ys) (xs ≡ [] → ⊥)
empty_where s [] [] z = ((λ e. absurd (true≢false e)), (λ n. absurd (n refl)))
empty_where s [] (y ∷ ys) z = absurd z
empty_where s (x ∷ xs) [] z = absurd z
empty_where s (x ∷ xs) (y ∷ ys) z = ((λ e p. omega (arith, ap length p)), (λ n. refl))

module _ (known : List (List ℕ)) (ts : Texts) (ps : List Member) (es : List Entry)
    (z : OneForOne (Seen registered ts) ps es) (s : List ℕ) where
  -- An element

  abbrev Placed : Str → Type 0
  Placed x = (Among registered x → ⊥) × Some (λ m. SayAlike m.name x) ps

  module _ (x : Str) (y : Element) (r : StringStands s x y) where
    known_where : FalseWhere (unknown known s y) (Among known x)
    known_where =
        where_is (unknown known s y) (eqb (number_in known (spelled_element s y)) 0)
        (ap (λ (k : ℕ). not (eqb k 2) || eqb (number_in known (spelled_element s y)) 0) r.kinds)
        (number_where (spelled_element s y) x r.spells known)

    placed_where : FalseWhere (misplaced ts es s y) (Placed x)
    placed_where =
        let w = spelled_element s y in
        neither (not (eqb (number_in registered w) 0)) (not (any (name_says ts w) es))
        (not_false_where (eqb (number_in registered w) 0) (number_where w x r.spells registered))
        (not_where (any (name_says ts w) es)
        (some_where (Seen registered ts) (λ m. SayAlike m.name x) (name_says ts w) ps es
        (λ p e t. alike_spells (name_in ts e) p.name t.spells w x r.spells)
        z))

  -- Elements that are strings

  abbrev Asked : List Str → Type 0
  Asked xs = (xs ≡ [] → ⊥) × (Every (Among known) xs × (Distinct xs × Every Placed xs))

  strings_where : (xs : List Str) (ys : List Element) → OneForOne (StringStands s) xs ys →
      FalseWhere (wrong_crit known ts es s ys) (Asked xs)
  unfolding wrong_crit
  strings_where xs ys u =
      let a = any (unknown known s) ys in
      let b = any_pair (same_element s) ys in
      let c = any (misplaced ts es s) ys in
      neither (is_empty ys) (a || (b || c)) (empty_where s xs ys u)
      (neither a (b || c) (every_where (StringStands s) (Among known) (unknown known s) xs ys known_where u)
      (neither b c
      (distinct_where (StringStands s) (same_element s)
      (λ x w y v r t. alike_spells (spelled_element s y) x r.spells (spelled_element s v) w t.spells)
      xs ys u)
      (every_where (StringStands s) Placed (misplaced ts es s) xs ys placed_where u)))

  -- The elements of an array

  crit_where : (v : Value) (ys : List Element) → OneForOne (ElementStands s) (elements_of v) ys →
      FalseWhere (wrong_crit known ts es s ys) (Critical known ps v)
  unfolding wrong_crit
  crit_where v ys u = (
    (λ e.
        let a = any (unknown known s) ys in
        let b = any_pair (same_element s) ys in
        let c = any (misplaced ts es s) ys in
        let strings = ((or_false a (b || c)).0 ((or_false (is_empty ys) (a || (b || c))).0 e).1).0 in
        let (xs, p) = all_strings known s (elements_of v) ys u strings in
        let stand = strings_stand s xs ys (subst (λ (vs : List Value). OneForOne (ElementStands s) vs ys) p u) in
        let t = (strings_where xs ys stand).0 e in
        let placed = (every_both (λ x. Among registered x → ⊥) (λ x. Some (λ m. SayAlike m.name x) ps) xs).0
        t.1.1.1 in
        record {
          names = xs;
          elements = p;
          some = t.0;
          distinct = t.1.1.0;
          are_known = t.1.0;
          unregistered = placed.0;
          present = placed.1;
        }),
    (λ r.
        let xs = r.names in
        let stand = strings_stand s xs ys (subst (λ (vs : List Value). OneForOne (ElementStands s) vs ys) r.elements u) in
        let placed = (every_both (λ x. Among registered x → ⊥) (λ x. Some (λ m. SayAlike m.name x) ps) xs).1
        (r.unregistered, r.present) in
        (strings_where xs ys stand).1 (r.some, (r.are_known, (r.distinct, placed)))),
  )

-- `crit` is an array.
crit_array : any (equal (ascii "crit")) array_names ≡ true
unfolding any equal ascii array_names
crit_array = refl

-- 17, where 14 does not refuse
pub critical_decided : (known : List (List ℕ)) (ts : Texts) (ps : List Member) (es : List Entry) →
    OneForOne (Seen registered ts) ps es → OfKind array_names 1 ps →
    (any (critical known ts es) es ≡ false) ↔ EveryNamed (ascii "crit") (Critical known ps) ps
critical_decided known ts ps es z arrays =
    every_where (λ m e. Seen registered ts m e × (Among array_names m.name → kind m.value ≡ 1))
    (λ m. HasOctets m.name (ascii "crit") → Critical known ps m.value) (critical known ts es) ps es
    (λ p e r.
    let s = text_of ts e.origin in
    let at = e.member.value_start in
    where_asked (numbered crit e) (wrong_crit known ts es s (elements_at 12 s at))
    (numbered_where registered ts p e r.0 crit (ascii "crit") crit_number)
    (λ h.
    crit_where known ts ps es z s p.value (elements_at 12 s at)
    (elements_stand s p.value at e.member.value_size r.0.stands
    (r.1 (among_of p.name (ascii "crit") array_names crit_array h)))))
    (zip_with (Seen registered ts) (λ m. Among array_names m.name → kind m.value ≡ 1) ps es z arrays)
