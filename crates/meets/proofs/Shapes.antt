-- Refusal 10 on the members of the top level and of an element: at each entry the test asks of a member what its name
-- asks for, so together they decide the shape.
use mathlib.Core.Path.{◌≡◌, refl, sym, ◌∙◌}
use mathlib.Core.Bool.{Bool, true, false, ◌||◌, not, ◌&&◌, cond}
use mathlib.Core.Logic.Iff
use mathlib.Core.Logic.{◌↔◌, inl, inr}
use mathlib.Core.List.{List, [], ◌∷◌}
use Prim.Native.Nat.{ℕ}
use lib.Dec.{eqb}
use borrow.Author.Tests.{eqb-true, eq-eqb}
use Rattle.prelude.specs.Ascii.{ascii}
use Rattle.grammar.specs.Grammar.{Str, Value}
use Rattle.grammar.specs.Places.{kind}
use Rattle.grammar.specs.Strings.{HasOctets}
use Rattle.grammar.specs.Spellings.{adds, next, undo_from, undo, equal, has}
use Rattle.names.specs.Names.{number_in}
use Rattle.prelude.specs.Any.{any}
use Rattle.rows.specs.Rows.{Entry, numbered, one_text}
use Rattle.shape.specs.Shape.{member_names, wrong_component, wrong_header, wrong_member, wrong_in_element}
use Rattle.meets.specs.Members.{Member, Among}
use Rattle.meets.specs.Meets.{Plain, Filled, Header}
use Rattle.meets.proofs.Saying.{refuted}
use Rattle.meets.proofs.Deciding.{TrueWhere, FalseWhere, not_where, where_is, neither, either}
use Rattle.meets.proofs.Deciding.{where_asked, any_some, some_map}
use Rattle.meets.proofs.Numbering.{disagrees, equal_where}
use Rattle.meets.proofs.Entries.{named_where, numbered_where}
use Rattle.meets.proofs.ShapeValues.{header_where, component_where}
use Rattle.meets.proofs.MemberEntries.{Held, IsMember, header_number, key_number}
use Rattle.meets.proofs.MemberEntries.{ciphertext_number}

-- Names that ask for the same, and the tests on numbers that tell them

abbrev header_names : List (List ℕ)
header_names = ascii "unprotected" ∷ ascii "header" ∷ []

abbrev array_names : List (List ℕ)
array_names = ascii "recipients" ∷ []

abbrev component_names : List (List ℕ)
component_names =
    ascii "encrypted_key" ∷ ascii "protected" ∷ ascii "iv" ∷ ascii "aad" ∷ ascii "tag" ∷ ascii "ciphertext" ∷ []

abbrev for_header : ℕ → Bool
for_header n = not (eqb n 0) && (eqb n 2 || eqb n 3)

abbrev for_array : ℕ → Bool
for_array n = not (eqb n 0) && (not (eqb n 2 || eqb n 3) && eqb n 5)

abbrev for_component : ℕ → Bool
for_component n = not (eqb n 0) && (not (eqb n 2 || eqb n 3) && not (eqb n 5))

headers_named : disagrees member_names for_header header_names ≡ false
unfolding disagrees any member_names ascii number_in has equal undo undo_from adds next
headers_named = refl

arrays_named : disagrees member_names for_array array_names ≡ false
unfolding disagrees any member_names ascii number_in has equal undo undo_from adds next
arrays_named = refl

components_named : disagrees member_names for_component component_names ≡ false
unfolding disagrees any member_names ascii number_in has equal undo undo_from adds next
components_named = refl

-- A string that has one name has none of others.
not_among : (x : Str) (w : List ℕ) (ws : List (List ℕ)) → any (equal w) ws ≡ false → HasOctets x w → Among ws x → ⊥
not_among x w ws e h s =
    (refuted (any (equal w) ws) (any_some (equal w) (λ y. w ≡ y) (equal_where w) ws)).0 e
    (some_map (HasOctets x) (λ y. w ≡ y) (λ y g. sym h ∙ g) ws s)

-- Not that of the ciphertext.
abbrev NotIt : List ℕ → Type 0
NotIt w = any (equal w) (ascii "ciphertext" ∷ []) ≡ false

-- One member

-- A member with a name has such a value.
abbrev pub Field : List ℕ → (Value → Type 0) → Member → Type 0
Field w P m = HasOctets m.name w → P m.value

abbrev pub Whole : Value → Type 0
Whole v = Plain v × Filled v

abbrev pub IsArray : Value → Type 0
IsArray v = kind v ≡ 1

-- What a member's name asks for, name by name ..
abbrev pub Shaped : Member → Type 0
Shaped m =
    Field (ascii "encrypted_key") Whole m
    × (Field (ascii "header") Header m
    × (Field (ascii "protected") Whole m
    × (Field (ascii "iv") Whole m
    × (Field (ascii "aad") Whole m
    × (Field (ascii "tag") Whole m
    × (Field (ascii "ciphertext") Plain m
    × (Field (ascii "unprotected") Header m × Field (ascii "recipients") IsArray m)))))))

-- .. and by groups of names.

abbrev Component : Member → Type 0
Component m = Plain m.value × ((HasOctets m.name (ascii "ciphertext") → ⊥) → Filled m.value)

abbrev Grouped : Member → Type 0
Grouped m =
    (Among header_names m.name → Header m.value)
    × ((Among array_names m.name → kind m.value ≡ 1) × (Among component_names m.name → Component m))

-- The name is not the ciphertext's, so the value is not empty.
whole : (m : Member) (w : List ℕ) → NotIt w → (HasOctets m.name w → Component m) → Field w Whole m
whole m w n f h =
    let c = f h in (c.0, c.1 (λ g. not_among m.name w (ascii "ciphertext" ∷ []) n h (inl g)))

grouped_shaped : (m : Member) → Grouped m ↔ Shaped m
unfolding any equal ascii
grouped_shaped m = (
  (λ g.
      let c = g.1.1 in (
        whole m (ascii "encrypted_key") refl (λ h. c (inl h)),
        (
          (λ h. g.0 (inr (inl h))),
          (
            whole m (ascii "protected") refl (λ h. c (inr (inl h))),
            (
              whole m (ascii "iv") refl (λ h. c (inr (inr (inl h)))),
              (
                whole m (ascii "aad") refl (λ h. c (inr (inr (inr (inl h))))),
                (
                  whole m (ascii "tag") refl (λ h. c (inr (inr (inr (inr (inl h)))))),
                  (
                    (λ h. (c (inr (inr (inr (inr (inr (inl h))))))).0),
                    ((λ h. g.0 (inl h)), (λ h. g.1.0 (inl h))),
                  ),
                ),
              ),
            ),
          ),
        ),
      )),
  (λ s. (
    (λ a. elim a [
      | inl h ↦ s.1.1.1.1.1.1.1.0 h
      | inr b ↦ elim b [ inl h ↦ s.1.0 h | inr z ↦ absurd z ]
    ]),
    (
      (λ a. elim a [ inl h ↦ s.1.1.1.1.1.1.1.1 h | inr z ↦ absurd z ]),
      (λ a. component s a),
    ),
  )),
)
  where
    full : Whole m.value → Component m
    full w = (w.0, λ n. w.1)

    component : Shaped m → Among component_names m.name → Component m
    component s (inl h) = full (s.0 h)
    component s (inr (inl h)) = full (s.1.1.0 h)
    component s (inr (inr (inl h))) = full (s.1.1.1.0 h)
    component s (inr (inr (inr (inl h)))) = full (s.1.1.1.1.0 h)
    component s (inr (inr (inr (inr (inl h))))) = full (s.1.1.1.1.1.0 h)
    component s (inr (inr (inr (inr (inr (inl h)))))) = (s.1.1.1.1.1.1.0 h, λ n. absurd (n h))
    component s (inr (inr (inr (inr (inr (inr z)))))) = absurd z

-- The test asks each group.
split : (a b c x y z : Bool) →
    cond a false (cond b x (cond c y z))
    ≡ (((not a && b) && x) || (((not a && (not b && c)) && y) || ((not a && (not b && not c)) && z)))
split true b c x y z = refl
split false true c true y z = refl
split false true c false y z = refl
split false false true x true z = refl
split false false true x false z = refl
split false false false x y z = refl

module _ (message : List ℕ) (p : Member) (e : Entry) (r : Held message p e) where
  named : (f : ℕ → Bool) (ws : List (List ℕ)) → disagrees member_names f ws ≡ false →
      TrueWhere (f e.number) (Among ws p.name)
  named = named_where member_names (one_text message) p e r.seen

  pub numbered_as : (n : ℕ) (w : List ℕ) → IsMember n w → TrueWhere (numbered n e) (HasOctets p.name w)
  numbered_as = numbered_where member_names (one_text message) p e r.seen

  grouped_where : FalseWhere (wrong_member message e) (Grouped p)
  unfolding wrong_member
  grouped_where =
      let n = e.number in
      let k = e.member.kind in
      let at = e.member.value_start in
      let size = e.member.value_size in
      let x = wrong_header message e in
      let y = not (eqb k 1) in
      let z = wrong_component message e in
      where_is (wrong_member message e)
      ((for_header n && x) || ((for_array n && y) || (for_component n && z)))
      (split (eqb n 0) (eqb n 2 || eqb n 3) (eqb n 5) x y z)
      (neither (for_header n && x) ((for_array n && y) || (for_component n && z))
      (where_asked (for_header n) x (named for_header header_names headers_named)
      (λ h. header_where message p.value at size k r.seen.kinds r.stands))
      (neither (for_array n && y) (for_component n && z)
      (where_asked (for_array n) y (named for_array array_names arrays_named)
      (λ h.
      not_where (eqb k 1)
      ((λ t. sym r.seen.kinds ∙ eqb-true k 1 t), (λ t. eq-eqb k 1 (r.seen.kinds ∙ t)))))
      (where_asked (for_component n) z (named for_component component_names components_named)
      (λ h.
      component_where message p.value at size k r.seen.kinds r.stands (numbered 8 e)
      (numbered_as 8 (ascii "ciphertext") ciphertext_number)))))

  pub member_where : FalseWhere (wrong_member message e) (Shaped p)
  member_where = Iff.trans grouped_where (grouped_shaped p)

  -- In an element, where only `header` and `encrypted_key` are known.
  pub element_member_where : FalseWhere (wrong_in_element message e)
      (Field (ascii "encrypted_key") Whole p × Field (ascii "header") Header p)
  unfolding any equal ascii
  element_member_where =
      Iff.trans
      (where_asked (numbered 3 e || numbered 4 e) (wrong_member message e)
      (either (numbered 3 e) (numbered 4 e) (numbered_as 3 (ascii "header") header_number)
      (numbered_as 4 (ascii "encrypted_key") key_number))
      (λ h. grouped_where)) (
        (λ f. (
          whole p (ascii "encrypted_key") refl (λ h. (f (inr h)).1.1 (inl h)),
          λ h. (f (inl h)).0 (inr (inl h)),
        )),
        (λ s a. elim a [
          | inl h ↦ (
            (λ g. s.1 h),
            (
              (λ g. absurd (not_among p.name (ascii "header") array_names refl h g)),
              (λ g. absurd (not_among p.name (ascii "header") component_names refl h g)),
            ),
          )
          | inr h ↦ (
            (λ g. absurd (not_among p.name (ascii "encrypted_key") header_names refl h g)),
            (
              (λ g. absurd (not_among p.name (ascii "encrypted_key") array_names refl h g)),
              (λ g. ((s.0 h).0, λ n. (s.0 h).1)),
            ),
          )
        ]),
      )
