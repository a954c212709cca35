-- Refusals 8, 9 and 12: an object has few members and no name twice, and no name stands in two headers.
use mathlib.Core.Path.{◌≡◌, refl, ap, ap₂, sym, subst, ◌∙◌}
use mathlib.Core.Bool.{Bool, true, false, not, ◌&&◌}
use mathlib.Core.Logic.{◌↔◌}
use mathlib.Core.List.{List, ◌++◌}
use Prim.Native.Nat.{ℕ, ◌≤◌}
use native.Mathlib.Omega.{arith}
use lib.ListN.{length}
use lib.Dec.{ltb}
use borrow.Author.Tests.{eq-eqb, ltb-false, le-ltb}
use Rattle.grammar.specs.Grammar.{Str}
use Rattle.grammar.specs.Strings.{SayAlike}
use Rattle.grammar.specs.Spellings.{alike}
use Rattle.prelude.specs.Any.{any, any_pair}
use Rattle.rows.specs.Rows.{Entry, Texts, one_text, name_in, apart, same, repeated}
use Rattle.prelude.specs.Refusals.{first}
use Rattle.headers.specs.Headers.{object_order}
use Rattle.meets.specs.Members.{Member, names_of, Distinct, Apart}
use Rattle.meets.specs.Rules.{Headers, NamesApart}
use Rattle.meets.specs.Meets.{Object}
use Rattle.meets.proofs.OneForOne.{OneForOne, zip_into, zip_map_left, zip_length}
use Rattle.meets.proofs.Saying.{Spells, alike_spells}
use Rattle.meets.proofs.Deciding.{TrueWhere, FalseWhere, pair_append, any_across}
use Rattle.meets.proofs.Deciding.{across_append, no_pair, every_right, first_none}
use Rattle.meets.proofs.Entries.{EntryStands, entry_seen, entry_origin, apart_where, distinct_where}

-- A name and the entry of origin o that has it.
record NameStands (ts : Texts) (o : ℕ) (x : Str) (e : Entry) : Type 0 where
  origin : e.origin ≡ o
  spells : Spells (name_in ts e) x

module _ (names : List (List ℕ)) (ts : Texts) where
  -- The names of members and their entries.
  names_stand : (o : ℕ) (ps : List Member) (es : List Entry) → OneForOne (EntryStands names ts o) ps es →
      OneForOne (NameStands ts o) (names_of ps) es
  names_stand o ps es z =
      (zip_map_left (NameStands ts o) (λ (p : Member). p.name) ps es).0
      (zip_into (EntryStands names ts o) (λ p e. NameStands ts o p.name e)
      (λ p e r.
      let t = entry_seen names ts o p e r in record {
        origin = entry_origin names ts o p e r;
        spells = t.spells;
      })
      ps es z)

-- Names of origins that are asked for say the same where the test says so.
module _ (across : Bool) (ts : Texts) (o q : ℕ) (a : apart across o q ≡ true) where
  same_where : (x y : Str) (e f : Entry) → NameStands ts o x e → NameStands ts q y f →
      TrueWhere (same across ts e f) (SayAlike x y)
  same_where x y e f r t =
      let d = alike_spells (name_in ts e) x r.spells (name_in ts f) y t.spells in
      let b : apart across e.origin f.origin ≡ true = ap₂ (apart across) r.origin t.origin ∙ a in
      subst (λ (c : Bool). TrueWhere (c && alike (name_in ts e) (name_in ts f)) (SayAlike x y))
      (sym b) d

-- Entries of one origin are not of two.
one_origin : (ts : Texts) (o : ℕ) (e f : Entry) → e.origin ≡ o → f.origin ≡ o →
    same true ts e f ≡ false
one_origin ts o e f a b =
    ap (λ (c : Bool). not c && alike (name_in ts e) (name_in ts f))
    (eq-eqb e.origin f.origin (a ∙ sym b))

-- 9: no name twice in an object of one text.
pub distinct_decided : (names : List (List ℕ)) (s : List ℕ) (o : ℕ) (ps : List Member) (es : List Entry) →
    OneForOne (EntryStands names (one_text s) o) ps es → (repeated false (one_text s) es ≡ false) ↔ Distinct (names_of ps)
unfolding repeated
distinct_decided names s o ps es z =
    distinct_where (NameStands (one_text s) o) (same false (one_text s)) (same_where false (one_text s) o o (eq-eqb o o refl)) (names_of ps) es
    (names_stand names (one_text s) o ps es z)

-- 8: at most 32 members.
pub few_decided : (names : List (List ℕ)) (s : List ℕ) (o : ℕ) (ps : List Member) (es : List Entry) →
    OneForOne (EntryStands names (one_text s) o) ps es → (ltb 32 (length es) ≡ false) ↔ (length ps ≤ 32)
few_decided names s o ps es z =
    let n = zip_length (EntryStands names (one_text s) o) ps es z in (
      (λ e. let h = ltb-false 32 (length es) e in omega arith),
      (λ h. le-ltb 32 (length es) (omega arith)),
    )

-- Both: the object's names may be compared, and none stands twice.
pub object_decided : (names : List (List ℕ)) (s : List ℕ) (o : ℕ) (ps : List Member) (es : List Entry) →
    OneForOne (EntryStands names (one_text s) o) ps es → (first (object_order s es) ≡ 0) ↔ Object ps
unfolding object_order any
object_decided names s o ps es z =
    let t = first_none (object_order s es) refl in
    let few = few_decided names s o ps es z in
    let distinct = distinct_decided names s o ps es z in (
      (λ e. let h = t.0 e in record { few = few.0 h.0; distinct = distinct.0 h.1.0 }),
      (λ r. t.1 (few.1 r.few, (distinct.1 r.distinct, tt))),
    )

-- 12: no name stands in two headers.
module _ (names : List (List ℕ)) (ts : Texts) (h : Headers) (ps ss os : List Entry)
    (zp : OneForOne (EntryStands names ts 0) h.protected ps)
    (zs : OneForOne (EntryStands names ts 1) h.shared ss)
    (zo : OneForOne (EntryStands names ts 2) h.own os) where
  abbrev test : Entry → Entry → Bool
  test = same true ts

  -- Two lists of entries of two origins.
  across_where : (o q : ℕ) → apart true o q ≡ true → (xs ys : List Member) (es fs : List Entry) →
      OneForOne (EntryStands names ts o) xs es → OneForOne (EntryStands names ts q) ys fs →
      FalseWhere (any_across test es fs) (Apart (names_of xs) (names_of ys))
  across_where o q a xs ys es fs z u =
      apart_where (NameStands ts o) (NameStands ts q) test
      (same_where true ts o q a) (names_of xs) (names_of ys) es fs
      (names_stand names ts o xs es z) (names_stand names ts q ys fs u)

  within : (o : ℕ) (xs : List Member) (es : List Entry) → OneForOne (EntryStands names ts o) xs es →
      any_pair test es ≡ false
  within o xs es z =
      no_pair test (λ e. e.origin ≡ o) (one_origin ts o) es
      (every_right (EntryStands names ts o) (λ e. e.origin ≡ o) (entry_origin names ts o) xs
      es z)

  pub names_apart_decided : (repeated true ts (ps ++ (ss ++ os)) ≡ false) ↔ NamesApart h
  unfolding repeated
  names_apart_decided =
      let whole = pair_append test ps (ss ++ os) in
      let rest = pair_append test ss os in
      let split = across_append test ps ss os in
      let one = across_where 0 1 refl h.protected h.shared ps ss zp zs in
      let two = across_where 0 2 refl h.protected h.own ps os zp zo in
      let three = across_where 1 2 refl h.shared h.own ss os zs zo in (
        (λ e.
            let t = whole.0 e in
            let u = split.0 t.1 in
            (one.0 u.0, two.0 u.1, three.0 (rest.0 t.2).1)),
        (λ a.
            whole.1 (
              within 0 h.protected ps zp,
              split.1 (one.1 a.0, two.1 a.1),
              rest.1 (within 1 h.shared ss zs, three.1 a.2, within 2 h.own os zo),
            )),
      )
