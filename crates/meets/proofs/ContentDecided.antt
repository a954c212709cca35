-- Refusal 21: the test on all recipients decides that every two have the same content algorithm. Where 9 and 12 to 14 do
-- not refuse, each has one `enc`, a string, which one of its entries spells. Saying the same is an equality, so that every
-- two say the same exactly where each says the same as the first.
use mathlib.Core.Path.{◌≡◌, refl, ap, sym, subst₂, ◌∙◌}
use mathlib.Core.Bool.{Bool, true, false, cond}
use mathlib.Core.Option.{Option, none, some}
use mathlib.Core.Logic.Iff
use mathlib.Core.Logic.{◌↔◌, inl, inr}
use mathlib.Core.List.{List, [], ◌∷◌, ◌++◌, map}
use Prim.Native.Nat.{ℕ}
use borrow.Author.Tests.{eq-eqb}
use Rattle.prelude.specs.Ascii.{ascii}
use Rattle.prelude.specs.Any.{any}
use Rattle.grammar.specs.Grammar.{Str, Value}
use Rattle.grammar.specs.Grammar as grammar
use Rattle.grammar.specs.Strings.{SayAlike, HasOctets}
use Rattle.grammar.specs.Spellings.{alike}
use Rattle.grammar.specs.Bounds.{Every}
use Rattle.rows.specs.Rows.{Entry, Texts, value_in, numbered, having}
use Rattle.jose.specs.Registered.{registered, enc, string}
use Rattle.jose.specs.ContentAlgorithm.{sole_string, content_algorithm, differ, differing}
use Rattle.meets.specs.Members.{Member, names_of, EveryTwo, Distinct, Named, Absent}
use Rattle.meets.specs.Rules.{Headers, parameters, EveryNamed, Present, string_names, OfKind, SameString, SameContent}
use Rattle.meets.specs.Meets.{OneContent}
use Rattle.meets.proofs.OneForOne.{OneForOne, zip_into, zip_map_right}
use Rattle.meets.proofs.Standing.{kind_string}
use Rattle.meets.proofs.Saying.{Spells, alike_spells, refuted}
use Rattle.meets.proofs.Deciding.{TrueWhere, FalseWhere, not_where, every_map, some_every, every_both}
use Rattle.meets.proofs.Deciding.{every_left, every_where}
use Rattle.meets.proofs.Numbering.{among_of}
use Rattle.meets.proofs.Entries.{EntryStands, Seen, numbered_where, value_spells}
use Rattle.meets.proofs.Parameters.{enc_number, enc_string}
use Rattle.meets.proofs.KeyFits.{once}
use Rattle.meets.proofs.RulesDecided.{all_seen}

-- Headers that name a content algorithm: what 9 and 12 to 14 leave.
pub record HasContent (h : Headers) : Type 0 where
  pub distinct : Distinct (names_of (parameters h))
  pub enc : Present (ascii "enc") (parameters h)
  pub strings : OfKind string_names 2 (parameters h)

-- The string x is the `enc` of parameters, and no other value is.
record EncIs (ps : List Member) (x : Str) : Type 0 where
  there : Named (ascii "enc") (grammar.string x) ps
  only : EveryNamed (ascii "enc") (λ v. v ≡ grammar.string x) ps

-- Two recipients

module _ (h k : Headers) (x y : Str) (a : EncIs (parameters h) x) (b : EncIs (parameters k) y) where
  same_string : (v w : Value) → v ≡ grammar.string x → w ≡ grammar.string y → SameString v w ↔ SayAlike x y
  same_string v w i j = subst₂ (λ t u. SameString t u ↔ SayAlike x y) (sym i) (sym j) ((λ s. s), (λ s. s))

  -- They have the same content algorithm where their strings say the same.
  same_where : SameContent h k ↔ SayAlike x y
  same_where = (
    (λ s.
        some_every _ _
        (λ m i f. some_every _ _ (λ n j g. (same_string m.value n.value i.1 j.1).0 (g j.0)) (parameters k)
        b.there (f i.0))
        (parameters h) a.there s),
    (λ s.
        every_map _ _
        (λ m i o. every_map _ _ (λ n j p. (same_string m.value n.value (i o) (j p)).1 s) (parameters k) b.only)
        (parameters h) a.only),
  )

-- Every two of a list are related exactly where the first is to each, if each is to itself and those to which one is are to
-- each other.
module _ {A : Type 0} (G : A → Type 0) (R : A → A → Type 0) (itself : (x : A) → G x → R x x)
    (each-other : (x y z : A) → G x → G y → G z → R x y → R x z → R y z) where
  two_by_one : (x : A) → G x → (ys : List A) → Every G ys → Every (R x) ys → EveryTwo R ys
  two_by_one x g [] gs h = tt
  two_by_one x g (y ∷ ys) gs h = (
    every_map (λ z. G z × R x z) (R y) (λ z i. each-other x y z g gs.0 i.0 h.0 i.1) ys
        ((every_both G (R x) ys).1 (gs.1, h.1)),
    two_by_one x g ys gs.1 h.1,
  )

  every_two_by_first : (x : A) (ys : List A) → Every G (x ∷ ys) → Every (R x) (x ∷ ys) ↔ EveryTwo R (x ∷ ys)
  every_two_by_first x ys g = (
    (λ h. (h.1, two_by_one x g.0 ys g.1 h.1)),
    (λ h. (itself x g.0, h.0)),
  )

-- The content algorithm that is found: the `enc` of parameters, spelled.
record Spelled (ps : List Member) (c : Option (List ℕ)) : Type 0 where
  content : Str
  is : EncIs ps content
  octets : List ℕ
  found : c ≡ some octets
  spells : Spells octets content

-- In the entries of parameters

module _ (ts : Texts) where
  enc_where : (p : Member) (e : Entry) → Seen registered ts p e →
      TrueWhere (numbered enc e) (HasOctets p.name (ascii "enc"))
  enc_where p e r = numbered_where registered ts p e r enc (ascii "enc") enc_number

  none_having : (ps : List Member) (es : List Entry) → OneForOne (Seen registered ts) ps es → Absent (ascii "enc") ps →
      having enc es ≡ []
  unfolding having
  none_having [] [] z a = refl
  none_having [] (e ∷ es) z a = absurd z
  none_having (p ∷ ps) [] z a = absurd z
  none_having (p ∷ ps) (e ∷ es) z a =
      ap (λ (b : Bool). cond b (e ∷ having enc es) (having enc es))
      ((refuted (numbered enc e) (enc_where p e z.0)).1 a.0)
      ∙ none_having ps es z.1 a.1

  content_spelled : (ps : List Member) (es : List Entry) → OneForOne (Seen registered ts) ps es → Distinct (names_of ps) →
      Present (ascii "enc") ps → OfKind string_names 2 ps → Spelled ps (content_algorithm ts es)
  unfolding content_algorithm having
  content_spelled [] es z d i s = absurd i
  content_spelled (p ∷ ps) [] z d i s = absurd z
  content_spelled (p ∷ ps) (e ∷ es) z d i s =
      cases (numbered enc e) refl (λ j. content_spelled ps es z.1 d.1 j s.1)
    where
      named : TrueWhere (numbered enc e) (HasOctets p.name (ascii "enc"))
      named = enc_where p e z.0

      cases : (b : Bool) → numbered enc e ≡ b →
          (Present (ascii "enc") ps → Spelled ps (sole_string ts (having enc es))) →
          Spelled (p ∷ ps) (sole_string ts (cond b (e ∷ having enc es) (having enc es)))
      cases true t later =
          let n = named.0 t in
          let absent = once ts p.name (ascii "enc") z.0.spells.sayable n ps es z.1 d.0 in
          let k = s.0 (among_of p.name (ascii "enc") string_names enc_string n) in
          let (x, v) = kind_string p.value k in
          record {
            content = x;
            is = record { there = inl (n, v); only = ((λ _. v), every_map _ _ (λ m f o. absurd (f o)) ps absent) };
            octets = value_in ts e;
            found =
                ap (λ (fs : List Entry). sole_string ts (e ∷ fs)) (none_having ps es z.1 absent)
                ∙ ap (λ (b : Bool). cond {A = Option (List ℕ)} b (some (value_in ts e)) none)
                (eq-eqb e.member.kind string (z.0.kinds ∙ k));
            spells = value_spells registered ts p e z.0 x v;
          }
      cases false t later =
          let other = (refuted (numbered enc e) named).0 t in
          let j : Present (ascii "enc") ps = elim i [ inl n ↦ absurd (other n) | inr j ↦ j ] in
          let spelled = later j in
          record {
            content = spelled.content;
            is = record { there = inr spelled.is.there; only = ((λ n. absurd (other n)), spelled.is.only) };
            octets = spelled.octets;
            found = spelled.found;
            spells = spelled.spells;
          }

-- All recipients

module _ (protected shared : List Member) where
  abbrev with_own : List Member → Headers
  with_own own = record { protected = protected; shared = shared; own = own }

  abbrev Same : List Member → List Member → Type 0
  Same own other = SameContent (with_own own) (with_own other)

  abbrev Has : List Member → Type 0
  Has own = (x : Str) × EncIs (parameters (with_own own)) x

  same : (own other : List Member) (f : Has own) (g : Has other) → Same own other ↔ SayAlike f.0 g.0
  same own other f g = same_where (with_own own) (with_own other) f.0 g.0 f.1 g.1

  abbrev Found : List Member → Option (List ℕ) → Type 0
  Found own c = Spelled (parameters (with_own own)) c

  differ_where : (own other : List Member) (c d : Option (List ℕ)) → Found own c → Found other d →
      FalseWhere (differ c d) (Same own other)
  differ_where own other c d f g =
      subst₂ (λ a b. FalseWhere (differ a b) (Same own other)) (sym f.found) (sym g.found)
      (Iff.trans
      (not_where (alike f.octets g.octets)
      (alike_spells f.octets f.content f.spells g.octets g.content g.spells))
      (Iff.symm (same own other (f.content, f.is) (g.content, g.is))))

  differing_where : (owns : List (List Member)) (cs : List (Option (List ℕ))) → OneForOne Found owns cs →
      FalseWhere (differing 0 cs) (OneContent protected shared owns)
  unfolding differing any
  differing_where [] [] z = ((λ e. tt), (λ h. refl))
  differing_where [] (c ∷ cs) z = absurd z
  differing_where (own ∷ owns) [] z = absurd z
  differing_where (own ∷ owns) (c ∷ cs) z =
      Iff.trans
      (every_where Found (Same own) (differ c) (own ∷ owns) (c ∷ cs) (λ other d. differ_where own other c d z.0) z)
      (every_two_by_first Has Same (λ a g. (same a a g g).1 refl)
      (λ a b e g h i s t. (same b e h i).1 (sym ((same a b g h).0 s) ∙ (same a e g i).0 t)) own owns
      (every_left Found Has (λ a d f. (f.content, f.is)) (own ∷ owns) (c ∷ cs) z))

-- A recipient's own header and its entries, with the headers that all recipients share.
abbrev pub ContentStands : Texts → List Member → List Member → List Member → List Entry → Type 0
ContentStands ts protected shared own es =
    OneForOne (EntryStands registered ts 2) own es
    × HasContent (record { protected = protected; shared = shared; own = own })

-- 21, where 9 and 12 to 14 do not refuse
module _ (ts : Texts) (protected shared : List Member) (ps ss : List Entry)
    (zp : OneForOne (EntryStands registered ts 0) protected ps)
    (zs : OneForOne (EntryStands registered ts 1) shared ss) {R : Type 0} (entries : R → List Entry) where
  abbrev content : R → Option (List ℕ)
  content r = content_algorithm ts (ps ++ (ss ++ entries r))

  pub content_decided : (owns : List (List Member)) (rs : List R) →
      OneForOne (λ own r. ContentStands ts protected shared own (entries r)) owns rs →
      (differing 0 (map (λ r. content_algorithm ts (ps ++ (ss ++ entries r))) rs) ≡ false) ↔ OneContent protected shared owns
  content_decided owns rs z =
      differing_where protected shared owns (map content rs)
      ((zip_map_right (Found protected shared) content owns rs).0
      (zip_into (λ own r. ContentStands ts protected shared own (entries r))
      (λ own r. Found protected shared own (content r))
      (λ own r (i, h).
      let k = with_own protected shared own in
      content_spelled ts (parameters k) (ps ++ (ss ++ entries r)) (all_seen ts k ps ss (entries r) zp zs i)
      h.distinct h.enc h.strings)
      owns rs z))
