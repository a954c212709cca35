-- Refusals 13 to 16, decided at each entry: `alg` and `enc` are there, parameters are of the kinds that their names ask
-- for, the values of `alg`, `enc` and the compression parameter are listed, and that one and `crit` are protected.
use mathlib.Core.Path.{◌≡◌, refl, ap, sym, ◌∙◌}
use mathlib.Core.Bool.{Bool, true, false, not, ◌&&◌, ◌||◌, cond, and-false}
use mathlib.Core.Logic.{◌↔◌}
use mathlib.Core.List.{List, [], ◌∷◌, ◌++◌}
use Prim.Native.Nat.{ℕ}
use native.Mathlib.Omega.{arith}
use lib.Dec.{eqb, leb}
use borrow.Author.Tests.{eqb-true, eq-eqb}
use Rattle.prelude.specs.Ascii.{ascii}
use Rattle.grammar.specs.Places.{kind}
use Rattle.grammar.specs.Strings.{HasOctets}
use Rattle.grammar.specs.Spellings.{adds, next, undo_from, undo, equal, has}
use Rattle.names.specs.Names.{number_in}
use Rattle.prelude.specs.Any.{any}
use Rattle.rows.specs.Rows.{Entry, Texts, value_in, numbered, present}
use Rattle.algorithms.specs.Algorithms.{alg_names, enc_names, zip_names}
use Rattle.jose.specs.Registered.{registered, alg, enc, zip, jwk, x5c, crit, object, array, string, any_kind, kind_asked}
use Rattle.jose.specs.HeaderRules.{incomplete, wrong_kind, unlisted, unprotected}
use Rattle.meets.specs.Members.{Member, Among}
use Rattle.meets.specs.Rules.{Headers, EveryNamed, Present, string_names, object_names, array_names, OfKind}
use Rattle.meets.specs.Rules.{ValueAmong}
use Rattle.meets.proofs.OneForOne.{OneForOne, zip_into, zip_append}
use Rattle.meets.proofs.Saying.{refuted}
use Rattle.meets.proofs.Deciding.{TrueWhere, FalseWhere, not_where, not_none_where, where_true}
use Rattle.meets.proofs.Deciding.{neither, where_asked, none_of_three, eqb_where, every_both, every_three}
use Rattle.meets.proofs.Deciding.{zip_with, every_where, some_where, any_every, every_right, any_append}
use Rattle.meets.proofs.Numbering.{disagrees, among_of}
use Rattle.meets.proofs.Entries.{EntryStands, Seen, entry_seen, entry_origin, named_where, numbered_where}
use Rattle.meets.proofs.Entries.{value_where}

-- The registered names by their numbers: computed over the list.

-- Having a number is having the name of that number.
abbrev IsNumber : ℕ → List ℕ → Type 0
IsNumber n w = disagrees registered (λ m. eqb m n) (w ∷ []) ≡ false

pub alg_number : IsNumber alg (ascii "alg")
unfolding disagrees any registered ascii number_in has equal undo undo_from adds next
alg_number = refl

pub enc_number : IsNumber enc (ascii "enc")
unfolding disagrees any registered ascii number_in has equal undo undo_from adds next
enc_number = refl

pub zip_number : IsNumber zip (ascii "zip")
unfolding disagrees any registered ascii number_in has equal undo undo_from adds next
zip_number = refl

pub crit_number : IsNumber crit (ascii "crit")
unfolding disagrees any registered ascii number_in has equal undo undo_from adds next
crit_number = refl

-- Asking for a kind is being among the names of that kind.
abbrev AsksFor : ℕ → List (List ℕ) → Type 0
AsksFor k ws = disagrees registered (λ n. eqb (kind_asked n) k) ws ≡ false

strings_ask : AsksFor string string_names
unfolding disagrees any registered string_names kind_asked ascii number_in has equal undo undo_from adds next
strings_ask = refl

objects_ask : AsksFor object object_names
unfolding disagrees any registered object_names kind_asked ascii number_in has equal undo undo_from adds next
objects_ask = refl

arrays_ask : AsksFor array array_names
unfolding disagrees any registered array_names kind_asked ascii number_in has equal undo undo_from adds next
arrays_ask = refl

-- A name asks for an object, an array, a string, or any kind.
kind_cases : (P : ℕ → Type 0) → P object → P array → P string → P any_kind → (n : ℕ) → P (kind_asked n)
unfolding kind_asked
kind_cases P a b c d n = cases (eqb n jwk) (eqb n x5c || eqb n crit) (leb 1 n && leb n 12)
  where
    cases : (x y z : Bool) → P (cond x object (cond y array (cond z string any_kind)))
    cases true y z = a
    cases false true z = b
    cases false false true = c
    cases false false false = d

-- So the kind k is the one asked for, if one is, exactly where it is each of these that is asked for.
asked_where : (k n : ℕ) →
    ((kind_asked n ≡ any_kind → ⊥) → kind_asked n ≡ k)
    ↔ ((kind_asked n ≡ string → k ≡ string) × (kind_asked n ≡ object → k ≡ object) × (kind_asked n ≡ array → k ≡ array))
asked_where k n = (
  (λ f. let g = to f in (g string (λ z. omega arith), g object (λ z. omega arith), g array (λ z. omega arith))),
  kind_cases (λ a. ((a ≡ string → k ≡ string) × (a ≡ object → k ≡ object) × (a ≡ array → k ≡ array)) →
      (a ≡ any_kind → ⊥) → a ≡ k)
      (λ r m. sym (r.1 refl)) (λ r m. sym (r.2 refl)) (λ r m. sym (r.0 refl)) (λ r m. absurd (m refl)) n,
)
  where
    to : ((kind_asked n ≡ any_kind → ⊥) → kind_asked n ≡ k) → (c : ℕ) → (c ≡ any_kind → ⊥) → kind_asked n ≡ c → k ≡ c
    to f c m e = sym (f (λ z. m (sym e ∙ z))) ∙ e

-- One entry

-- Its member is of the kind that the name asks for, each of the three.
abbrev Kinds : Member → Type 0
Kinds m =
    (Among string_names m.name → kind m.value ≡ 2)
    × (Among object_names m.name → kind m.value ≡ 0)
    × (Among array_names m.name → kind m.value ≡ 1)

module _ (ts : Texts) (p : Member) (e : Entry) (r : Seen registered ts p e) where
  -- A kind is asked for exactly where the name is among those that ask for it.
  asks_where : (k : ℕ) (ws : List (List ℕ)) → AsksFor k ws → (kind_asked e.number ≡ k) ↔ Among ws p.name
  asks_where k ws a =
      let t = named_where registered ts p e r (λ n. eqb (kind_asked n) k) ws a in
      ((λ z. t.0 (eq-eqb (kind_asked e.number) k z)), (λ h. eqb-true (kind_asked e.number) k (t.1 h)))

  kind_where : FalseWhere (wrong_kind e) (Kinds p)
  kind_where =
      let a = kind_asked e.number in
      let k = e.member.kind in
      let test =
      where_asked (not (eqb a any_kind)) (not (eqb a k)) (not_none_where (eqb a any_kind) (eqb_where a any_kind))
      (λ n. not_where (eqb a k) (eqb_where a k)) in
      let three = asked_where k e.number in
      let strings = asks_where string string_names strings_ask in
      let objects = asks_where object object_names objects_ask in
      let arrays = asks_where array array_names arrays_ask in (
        (λ b.
            let t = three.0 (test.0 b) in (
              (λ h. sym r.kinds ∙ t.0 (strings.1 h)),
              (λ h. sym r.kinds ∙ t.1 (objects.1 h)),
              (λ h. sym r.kinds ∙ t.2 (arrays.1 h)),
            )),
        (λ t.
            test.1 (three.1 (
              (λ z. r.kinds ∙ t.0 (strings.0 z)),
              (λ z. r.kinds ∙ t.1 (objects.0 z)),
              (λ z. r.kinds ∙ t.2 (arrays.0 z)),
            ))),
      )

  -- A parameter that takes a value of a list, where those of its name are strings.
  listed_where : (Among string_names p.name → kind p.value ≡ 2) → (n : ℕ) (w : List ℕ) (ws : List (List ℕ)) →
      IsNumber n w → any (equal w) string_names ≡ true →
      FalseWhere (numbered n e && eqb (number_in ws (value_in ts e)) 0)
      (HasOctets p.name w → ValueAmong ws p.value)
  listed_where k n w ws a i =
      where_asked (numbered n e) (eqb (number_in ws (value_in ts e)) 0)
      (numbered_where registered ts p e r n w a)
      (λ h. value_where registered ts p e r ws (k (among_of p.name w string_names i h)))

  -- The names that are asked for protection.
  outside_where : (eqb e.origin 0 ≡ false) →
      FalseWhere (unprotected e) ((HasOctets p.name (ascii "zip") → ⊥) × (HasOctets p.name (ascii "crit") → ⊥))
  outside_where o =
      where_true (numbered zip e || numbered crit e) (not (eqb e.origin 0)) (ap not o)
      (neither (numbered zip e) (numbered crit e)
      (refuted (numbered zip e) (numbered_where registered ts p e r zip (ascii "zip") zip_number))
      (refuted (numbered crit e) (numbered_where registered ts p e r crit (ascii "crit") crit_number)))

-- `alg`, `enc` and the compression parameter are strings.

alg_string : any (equal (ascii "alg")) string_names ≡ true
unfolding any equal ascii string_names
alg_string = refl

pub enc_string : any (equal (ascii "enc")) string_names ≡ true
unfolding any equal ascii string_names
enc_string = refl

zip_string : any (equal (ascii "zip")) string_names ≡ true
unfolding any equal ascii string_names
zip_string = refl

-- All entries

module _ (ts : Texts) (ps : List Member) (es : List Entry)
    (z : OneForOne (Seen registered ts) ps es) where
  present_where : (n : ℕ) (w : List ℕ) → IsNumber n w → TrueWhere (present n es) (Present w ps)
  unfolding present
  present_where n w a =
      some_where (Seen registered ts) (λ m. HasOctets m.name w) (numbered n) ps es
      (λ p e r. numbered_where registered ts p e r n w a) z

  -- 13
  pub required_decided : (incomplete es ≡ false) ↔ (Present (ascii "alg") ps × Present (ascii "enc") ps)
  unfolding incomplete
  required_decided =
      neither (not (present alg es)) (not (present enc es))
      (not_where (present alg es) (present_where alg (ascii "alg") alg_number))
      (not_where (present enc es) (present_where enc (ascii "enc") enc_number))

  -- 14
  pub kinds_decided : (any wrong_kind es ≡ false)
      ↔ (OfKind string_names 2 ps × OfKind object_names 0 ps × OfKind array_names 1 ps)
  kinds_decided =
      let each =
      every_where (Seen registered ts) Kinds wrong_kind ps es (kind_where ts) z in
      let three =
      every_three (λ m. Among string_names m.name → kind m.value ≡ 2)
      (λ m. Among object_names m.name → kind m.value ≡ 0)
      (λ m. Among array_names m.name → kind m.value ≡ 1) ps in
      ((λ e. three.0 (each.0 e)), (λ h. each.1 (three.1 h)))

  -- 15, where 14 does not refuse
  pub listed_decided : OfKind string_names 2 ps →
      (any (unlisted ts) es ≡ false)
      ↔ (EveryNamed (ascii "alg") (ValueAmong alg_names) ps
      × EveryNamed (ascii "enc") (ValueAmong enc_names) ps
      × EveryNamed (ascii "zip") (ValueAmong zip_names) ps)
  listed_decided strings =
      let each =
      every_where (λ m e. Seen registered ts m e × (Among string_names m.name → kind m.value ≡ 2))
      (λ m.
      (HasOctets m.name (ascii "alg") → ValueAmong alg_names m.value)
      × (HasOctets m.name (ascii "enc") → ValueAmong enc_names m.value)
      × (HasOctets m.name (ascii "zip") → ValueAmong zip_names m.value))
      (unlisted ts) ps es
      (λ p e r.
      let at = listed_where ts p e r.0 r.1 in
      none_of_three (numbered alg e && eqb (number_in alg_names (value_in ts e)) 0)
      (numbered enc e && eqb (number_in enc_names (value_in ts e)) 0)
      (numbered zip e && eqb (number_in zip_names (value_in ts e)) 0)
      (at alg (ascii "alg") alg_names alg_number alg_string)
      (at enc (ascii "enc") enc_names enc_number enc_string)
      (at zip (ascii "zip") zip_names zip_number zip_string))
      (zip_with (Seen registered ts) (λ m. Among string_names m.name → kind m.value ≡ 2) ps es z
      strings) in
      let three =
      every_three (λ m. HasOctets m.name (ascii "alg") → ValueAmong alg_names m.value)
      (λ m. HasOctets m.name (ascii "enc") → ValueAmong enc_names m.value)
      (λ m. HasOctets m.name (ascii "zip") → ValueAmong zip_names m.value) ps in
      ((λ e. three.0 (each.0 e)), (λ h. each.1 (three.1 h)))

-- 16: the three headers' entries, of origins 0, 1 and 2
module _ (ts : Texts) (h : Headers) (ps ss os : List Entry)
    (zp : OneForOne (EntryStands registered ts 0) h.protected ps)
    (zs : OneForOne (EntryStands registered ts 1) h.shared ss)
    (zo : OneForOne (EntryStands registered ts 2) h.own os) where
  abbrev Outside : Member → Entry → Type 0
  Outside m e = Seen registered ts m e × (eqb e.origin 0 ≡ false)

  outside : (o : ℕ) → eqb o 0 ≡ false → (ms : List Member) (es : List Entry) →
      OneForOne (EntryStands registered ts o) ms es → OneForOne Outside ms es
  outside o a ms es z =
      zip_into (EntryStands registered ts o) Outside
      (λ p e r. (
        entry_seen registered ts o p e r,
        ap (λ (n : ℕ). eqb n 0) (entry_origin registered ts o p e r) ∙ a,
      ))
      ms es z

  -- None in the protected header.
  inside : any unprotected ps ≡ false
  inside =
      (any_every unprotected (λ e. unprotected e ≡ false) (λ e. ((λ b. b), (λ b. b))) ps).1
      (every_right (EntryStands registered ts 0) (λ e. unprotected e ≡ false)
      (λ p e r.
      ap (λ (n : ℕ). (numbered zip e || numbered crit e) && not (eqb n 0))
      (entry_origin registered ts 0 p e r)
      ∙ and-false (numbered zip e || numbered crit e))
      h.protected ps zp)

  pub protected_decided : (any unprotected (ps ++ (ss ++ os)) ≡ false)
      ↔ (EveryNamed (ascii "zip") (λ v. ⊥) (h.shared ++ h.own)
      × EveryNamed (ascii "crit") (λ v. ⊥) (h.shared ++ h.own))
  protected_decided =
      let split = any_append unprotected ps (ss ++ os) in
      let each =
      every_where Outside
      (λ m. (HasOctets m.name (ascii "zip") → ⊥) × (HasOctets m.name (ascii "crit") → ⊥))
      unprotected (h.shared ++ h.own) (ss ++ os) (λ p e r. outside_where ts p e r.0 r.1)
      (zip_append Outside h.shared ss h.own os (outside 1 refl h.shared ss zs)
      (outside 2 refl h.own os zo)) in
      let two =
      every_both (λ m. HasOctets m.name (ascii "zip") → ⊥) (λ m. HasOctets m.name (ascii "crit") → ⊥)
      (h.shared ++ h.own) in
      ((λ e. two.0 (each.0 (split.0 e).1)), (λ r. split.1 (inside, each.1 (two.1 r))))
