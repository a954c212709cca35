-- In an object without a name twice, a name has one member: two of them would be spelled so that they say the same.
use mathlib.Core.Path.{◌≡◌, ap, ap₂, sym, subst, ◌∙◌}
use mathlib.Core.List.{List}
use mathlib.Core.Bool.{true, false, true≢false}
use mathlib.Core.Option.{none, some}
use mathlib.Core.Logic.{inl, inr}
use Prim.Native.Nat.{ℕ, zero, suc}
use Rattle.prelude.specs.Ascii.{ascii}
use Rattle.parts.specs.Parts as parts
use Rattle.grammar.specs.Places.{Place, Placed, Parts, done, part, parts_of, Member, members}
use Rattle.grammar.specs.Spellings.{equal, alike}
use Rattle.grammar.proofs.Spellings.{equal_same}
use Rattle.grammar.proofs.Scan.{T→true}
use Rattle.prelude.specs.Any.{any, any_pair}
use Rattle.rows.specs.Rows.{entries_in, same, repeated, one_text}
use Rattle.meets.specs.Handed.{NameAt, MemberAt, NoMember, PartAt, RowsOf, RecipientAt}
use Rattle.meets.proofs.Deciding.{or_false}
use Rattle.meets.proofs.Numbering.{octets_undone}
use Rattle.meets.proofs.PlacedNames.{Named, NamesStand, named_spells, named_at}
use Rattle.meets.proofs.MemberPlaced.{entries_at, entry_at}

-- A name has one value among the members.
abbrev pub Once : List ℕ → List ℕ → Parts → Type 0
Once s w ps = (v u : Placed) → MemberAt s w v ps → MemberAt s w u ps → v ≡ u

pub no_member : (s w : List ℕ) (v : Placed) (ps : Parts) → NoMember s w ps → MemberAt s w v ps → ⊥
unfolding NoMember MemberAt
no_member s w v done n m = m
no_member s w v (part none u ps) n m = no_member s w v ps n m
no_member s w v (part (some q) u ps) n m = elim m [ inl a ↦ n.0 a.0 | inr r ↦ no_member s w v ps n.1 r ]

pub part_once : (n : ℕ) (v u : Placed) (ps : Parts) → PartAt n v ps → PartAt n u ps → v ≡ u
unfolding PartAt
part_once n v u done a b = absurd a
part_once zero v u (part q x ps) a b = sym a ∙ b
part_once (suc n) v u (part q x ps) a b = part_once n v u ps a b

module _ (s w : List ℕ) where
  -- Two places of the name are spelled alike.
  alike_names : (q p : Place) → Named s q → Named s p → NameAt s q w → NameAt s p w →
      alike (parts.part s q.start q.size) (parts.part s p.start p.size) ≡ true
  unfolding alike
  alike_names q p h k a b =
      ap₂ equal (octets_undone _ h.name (named_spells s q h) w ((named_at s q h w).0 a))
      (octets_undone _ k.name (named_spells s p k) w ((named_at s p k w).0 b))
      ∙ T→true (equal w w) (equal_same w)

  -- So where none says what the first does, none of the others has the name.
  no_other_lem : (q : Place) (x : Placed) → Named s q → NameAt s q w → (u : Placed) (ps : Parts) → NamesStand s ps →
      any (same false (one_text s) (entry_at s q x)) (entries_at s ps) ≡ false → MemberAt s w u ps → ⊥
  unfolding NamesStand MemberAt entries_in members any
  no_other_lem q x h a u done k e m = m
  no_other_lem q x h a u (part none y ps) k e m = no_other_lem q x h a u ps k e m
  no_other_lem q x h a u (part (some p) y ps) k e m =
      let t = (or_false (same false (one_text s) (entry_at s q x) (entry_at s p y)) _).0 e in
      elim m [
        | inl b ↦ true≢false (sym (alike_names q p h k.0 a b.0) ∙ t.0)
        | inr r ↦ no_other_lem q x h a u ps k.1 t.1 r
      ]

  pub member_once : (ps : Parts) → NamesStand s ps → repeated false (one_text s) (entries_at s ps) ≡ false → Once s w ps
  unfolding NamesStand MemberAt entries_in members repeated any_pair
  member_once done k e v u m n = absurd m
  member_once (part none y ps) k e v u m n = member_once ps k e v u m n
  member_once (part (some q) y ps) k e v u m n =
      let t = (or_false (any (same false (one_text s) (entry_at s q y)) (entries_at s ps)) _).0 e in
      elim m [
        | inl a ↦ elim n [
          | inl b ↦ sym a.1 ∙ b.1
          | inr r ↦ absurd (no_other_lem q y k.0 a.0 u ps k.1 t.0 r)
        ]
        | inr l ↦ elim n [
          | inl b ↦ absurd (no_other_lem q y k.0 b.0 v ps k.1 t.0 l)
          | inr r ↦ member_once ps k.1 t.1 v u l r
        ]
      ]

  -- And one list of rows.
  pub rows_once : (ps : Parts) → Once s w ps → (ms ns : List Member) → RowsOf s w ps ms → RowsOf s w ps ns → ms ≡ ns
  rows_once ps one ms ns (inl a) (inl b) = a.1 ∙ sym b.1
  rows_once ps one ms ns (inl a) (inr b) = absurd (no_member s w b.0 ps a.0 b.1)
  rows_once ps one ms ns (inr a) (inl b) = absurd (no_member s w a.0 ps b.0 a.1)
  rows_once ps one ms ns (inr a) (inr b) =
      a.2 ∙ ap (λ (v : Placed). members (parts_of v)) (one a.0 b.0 a.1 b.1) ∙ sym b.2

-- The recipient's object is one.
pub recipient_once : (s : List ℕ) (ps : Parts) → Once s (ascii "recipients") ps → (n : ℕ) (rs os : Parts) →
    RecipientAt s ps n rs → RecipientAt s ps n os → rs ≡ os
recipient_once s ps one n rs os (inl a) (inl b) = a.1 ∙ sym b.1
recipient_once s ps one n rs os (inl a) (inr b) =
    absurd (no_member s (ascii "recipients") b.0 ps a.0 b.2)
recipient_once s ps one n rs os (inr a) (inl b) =
    absurd (no_member s (ascii "recipients") a.0 ps b.0 a.2)
recipient_once s ps one n rs os (inr a) (inr b) =
    let same = one a.0 b.0 a.2 b.2 in
    let there = subst (λ (v : Placed). PartAt n a.1 (parts_of v)) same a.3 in
    a.4 ∙ ap parts_of (part_once n a.1 b.1 (parts_of b.0) there b.3) ∙ sym b.4
