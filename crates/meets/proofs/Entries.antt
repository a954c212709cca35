-- Entries that stand for members: what the tests read of an entry is what the rules say of its member.
use mathlib.Core.Path.{◌≡◌, refl, ap, sym, subst}
use mathlib.Core.Bool.{Bool, false}
use mathlib.Core.Logic.{inl, inr}
use mathlib.Core.List.{List, [], ◌∷◌}
use Prim.Native.Nat.{ℕ}
use lib.Dec.{eqb}
use Rattle.grammar.specs.Grammar.{Str, Value, string}
use Rattle.grammar.specs.Places.{kind}
use Rattle.grammar.specs.Places as places
use Rattle.grammar.specs.Strings.{SayAlike, HasOctets}
use Rattle.grammar.specs.Bounds.{Every}
use Rattle.names.specs.Names.{number_in}
use Rattle.prelude.specs.Any.{any, any_pair}
use Rattle.rows.specs.Rows.{Entry, Texts, text_of, entry_of, entries_in, name_in, value_in, numbered}
use Rattle.meets.specs.Members.{Member, Among, Distinct, Apart}
use Rattle.meets.specs.Rules.{ValueAmong}
use Rattle.meets.proofs.OneForOne.{OneForOne, zip_into, zip_map_right}
use Rattle.meets.proofs.Standing.{Stands, MemberStands, kind_string}
use Rattle.meets.proofs.Saying.{Spells, name_spells, string_spells, refuted}
use Rattle.meets.proofs.Deciding.{TrueWhere, FalseWhere, neither, every_where, any_across}
use Rattle.meets.proofs.Numbering.{number_where, disagrees, numbers_decide}

-- An entry of origin o that is made of a row where the member stands; its number counts `names`.
pub record EntryStands (names : List (List ℕ)) (ts : Texts) (o : ℕ) (p : Member) (e : Entry) : Type 0 where
  pub row : places.Member
  pub made : e ≡ entry_of names (text_of ts o) o row
  pub stands : MemberStands (text_of ts o) p row

-- What is read of it, whatever its origin.
pub record Seen (names : List (List ℕ)) (ts : Texts) (p : Member) (e : Entry) : Type 0 where
  pub spells : Spells (name_in ts e) p.name
  pub number : e.number ≡ number_in names (name_in ts e)
  pub kinds : e.member.kind ≡ kind p.value
  pub stands : Stands (text_of ts e.origin) p.value e.member.value_start e.member.value_size

module _ (names : List (List ℕ)) (ts : Texts) where
  -- The entries of rows where members stand.
  pub entries_stand : (o : ℕ) (ps : List Member) (ms : List places.Member) →
      OneForOne (MemberStands (text_of ts o)) ps ms →
      OneForOne (EntryStands names ts o) ps (entries_in names (text_of ts o) o ms)
  unfolding entries_in
  entries_stand o ps ms z =
      let s = text_of ts o in
      (zip_map_right (EntryStands names ts o) (entry_of names s o) ps ms).0
      (zip_into (MemberStands s) (λ p m. EntryStands names ts o p (entry_of names s o m))
      (λ p m r. record { row = m; made = refl; stands = r }) ps ms z)

  pub entry_seen : (o : ℕ) (p : Member) (e : Entry) → EntryStands names ts o p e →
      Seen names ts p e
  entry_seen o p e r =
      subst (Seen names ts p) (sym r.made) (record {
        spells = name_spells (text_of ts o) p r.row r.stands;
        number = refl;
        kinds = r.stands.kinds;
        stands = r.stands.stands;
      })

  pub entry_origin : (o : ℕ) (p : Member) (e : Entry) → EntryStands names ts o p e → e.origin ≡ o
  entry_origin o p e r = ap (λ (f : Entry). f.origin) r.made

-- Names and numbers

module _ (names : List (List ℕ)) (ts : Texts) (p : Member) (e : Entry)
    (r : Seen names ts p e) where
  -- A test on numbers that agrees with some names decides whether the member has one of them ..
  pub named_where : (f : ℕ → Bool) (ws : List (List ℕ)) → disagrees names f ws ≡ false →
      TrueWhere (f e.number) (Among ws p.name)
  named_where f ws a =
      subst (λ (n : ℕ). TrueWhere (f n) (Among ws p.name)) (sym r.number)
      (numbers_decide names f ws a (name_in ts e) p.name r.spells)

  -- .. so being numbered n decides whether it has the n-th name.
  pub numbered_where : (n : ℕ) (w : List ℕ) → disagrees names (λ m. eqb m n) (w ∷ []) ≡ false →
      TrueWhere (numbered n e) (HasOctets p.name w)
  numbered_where n w a =
      let t = named_where (λ m. eqb m n) (w ∷ []) a in (
        (λ b. elim (t.0 b) [ inl h ↦ h | inr z ↦ absurd z ]),
        (λ h. t.1 (inl h)),
      )

  -- The entry's value spells the string that the member has ..
  pub value_spells : (x : Str) → p.value ≡ string x → Spells (value_in ts e) x
  value_spells x i =
      let s = text_of ts e.origin in
      let at = e.member.value_start in
      let size = e.member.value_size in
      string_spells s x at size (subst (λ (v : Value). Stands s v at size) i r.stands)

  -- .. so it is listed exactly where it is found among the names.
  pub value_where : (ws : List (List ℕ)) → kind p.value ≡ 2 →
      FalseWhere (eqb (number_in ws (value_in ts e)) 0) (ValueAmong ws p.value)
  value_where ws k =
      let (x, i) = kind_string p.value k in
      subst (λ (v : Value). FalseWhere (eqb (number_in ws (value_in ts e)) 0) (ValueAmong ws v)) (sym i)
      (number_where (value_in ts e) x (value_spells x i) ws)

-- Strings that say the same

-- A test on two of a list that asks whether they say the same.
module _ {B : Type 0} (S U : Str → B → Type 0) (g : B → B → Bool)
    (w : (x y : Str) (b c : B) → S x b → U y c → TrueWhere (g b c) (SayAlike x y)) where
  others_where : (x : Str) (b : B) → S x b → (ys : List Str) (cs : List B) → OneForOne U ys cs →
      FalseWhere (any (g b) cs) (Every (λ y. SayAlike x y → ⊥) ys)
  others_where x b r ys cs z =
      every_where U (λ y. SayAlike x y → ⊥) (g b) ys cs (λ y c q. refuted (g b c) (w x y b c r q)) z

  -- None of one list with one of another.
  pub apart_where : (xs ys : List Str) (bs cs : List B) → OneForOne S xs bs → OneForOne U ys cs →
      FalseWhere (any_across g bs cs) (Apart xs ys)
  apart_where xs ys bs cs z u =
      every_where S (λ x. Every (λ y. SayAlike x y → ⊥) ys) (λ b. any (g b) cs) xs bs
      (λ x b r. others_where x b r ys cs u) z

-- No two of one list.
module _ {B : Type 0} (S : Str → B → Type 0) (g : B → B → Bool)
    (w : (x y : Str) (b c : B) → S x b → S y c → TrueWhere (g b c) (SayAlike x y)) where
  pub distinct_where : (xs : List Str) (bs : List B) → OneForOne S xs bs → FalseWhere (any_pair g bs) (Distinct xs)
  unfolding any_pair
  distinct_where [] [] z = ((λ e. tt), (λ h. refl))
  distinct_where [] (b ∷ bs) z = absurd z
  distinct_where (x ∷ xs) [] z = absurd z
  distinct_where (x ∷ xs) (b ∷ bs) z =
      neither (any (g b) bs) (any_pair g bs) (others_where S S g w x b z.0 xs bs z.1) (distinct_where xs bs z.1)
