-- The first entry that has a number is that of a member with the name of that number, at its place in the reading; and
-- where no entry has it, no member has the name. By induction on the parts.
use mathlib.Core.Path.{◌≡◌, refl, ap, sym, subst, ◌∙◌}
use mathlib.Core.List.{List, [], ◌∷◌, map}
use mathlib.Core.Bool.{Bool, true, false, ◌||◌, cond}
use mathlib.Core.Option.{none, some}
use mathlib.Core.Logic.{◌⊎◌, inl, inr}
use Prim.Native.Nat.{ℕ, zero, suc, ◌<◌}
use native.Mathlib.Omega.{arith}
use lib.ListN.{length, get_or}
use lib.Dec.{eqb}
use borrow.Author.Tests.{eqb-true, eqb-false, ne_eqb}
use Rattle.grammar.specs.Places.{Place, Placed, item, Parts, done, part, start_of, size_of, kind_of, parts_of, member_of}
use Rattle.grammar.specs.Places.{members, Element, element_of, elements}
use Rattle.grammar.specs.Bounds.{Every}
use Rattle.grammar.specs.Shown.{Shown, Everywhere, EverywhereIn}
use Rattle.prelude.specs.Any.{any}
use Rattle.rows.specs.Rows.{Entry, entry_of, entries_in, present, value_of}
use Rattle.grammar.specs.Reader.{members_at}
use Rattle.headers.specs.Headers.{members_of}
use Rattle.shape.specs.Shape.{member_names}
use Rattle.meets.specs.Handed.{NameAt, MemberAt, NoMember, PartAt, RowsOf}
use Rattle.meets.proofs.Deciding.{or_false}
use Rattle.meets.proofs.Naming.{number_exactly, members_apart}
use Rattle.meets.proofs.HandedOut.{shown_members}
use Rattle.meets.proofs.PlacedNames.{Named, NamesStand, Unnamed, Sits, named_spells, named_at}

-- What holds of every value among parts holds of a member's value, and of the n-th part.

pub member_everywhere : (P : Placed → Type 0) (s w : List ℕ) (v : Placed) (ps : Parts) → MemberAt s w v ps →
    EverywhereIn P ps → Everywhere P v
unfolding MemberAt Everywhere
member_everywhere P s w v done m h = absurd m
member_everywhere P s w v (part none u ps) m h = member_everywhere P s w v ps m h.1
member_everywhere P s w v (part (some q) u ps) m h =
    elim m [ inl a ↦ subst (Everywhere P) a.1 h.0 | inr r ↦ member_everywhere P s w v ps r h.1 ]

pub part_everywhere : (P : Placed → Type 0) (n : ℕ) (v : Placed) (ps : Parts) → PartAt n v ps →
    EverywhereIn P ps → Everywhere P v
unfolding PartAt Everywhere
part_everywhere P n v done m h = absurd m
part_everywhere P zero v (part q u ps) m h = subst (Everywhere P) m h.0
part_everywhere P (suc n) v (part q u ps) m h = part_everywhere P n v ps m h.1

-- Of the value itself, and of those in it.

pub everywhere_here : (P : Placed → Type 0) (v : Placed) → Everywhere P v → P v
unfolding Everywhere
everywhere_here P (item k q ps) h = h.0

pub everywhere_in : (P : Placed → Type 0) (v : Placed) → Everywhere P v → EverywhereIn P (parts_of v)
unfolding Everywhere
everywhere_in P (item k q ps) h = h.1

-- The place of a placed value.
abbrev pub place_of : Placed → Place
place_of v = record { start = start_of v; size = size_of v }

module _ (s : List ℕ) where
  -- The entries of an object's parts.
  abbrev pub entries_at : Parts → List Entry
  entries_at ps = entries_in member_names s 1 (members ps)

  abbrev pub entry_at : Place → Placed → Entry
  entry_at q v = entry_of member_names s 1 (member_of q v)

  module _ (i : ℕ) (w : List ℕ) where
    -- No member has the name w, and no entry the number i + 1.
    pub record Missing (ps : Parts) : Type 0 where
      pub none : NoMember s w ps
      pub absent : present (suc i) (entries_at ps) ≡ false
      pub valued : value_of (suc i) (entries_at ps) ≡ record { start = 0; size = 0 }

    -- The first entry that has the number is that of a member with the name, and passes what every entry passes.
    pub record Found (ps : Parts) : Type 0 where
      pub value : Placed
      pub name : Place
      pub there : MemberAt s w value ps
      pub number : (entry_at name value).number ≡ suc i
      pub present : present (suc i) (entries_at ps) ≡ true
      pub valued : value_of (suc i) (entries_at ps) ≡ place_of value
      pub passes : (f : Entry → Bool) → any f (entries_at ps) ≡ false → f (entry_at name value) ≡ false

    module _ (inside : i < length member_names) (is : get_or member_names i [] ≡ w) where
      -- An entry has the number exactly where its name is at its place.
      name_numbered : (q : Place) (v : Placed) (h : Named s q) → (entry_at q v).number ≡ suc i → NameAt s q w
      name_numbered q v h e =
          (named_at s q h w).1
          ((number_exactly _ h.name (named_spells s q h) member_names members_apart i inside).0 e ∙ is)

      numbered_name : (q : Place) (v : Placed) (h : Named s q) → NameAt s q w → (entry_at q v).number ≡ suc i
      numbered_name q v h a =
          (number_exactly _ h.name (named_spells s q h) member_names members_apart i inside).1
          ((named_at s q h w).0 a ∙ sym is)

      -- One part more.
      module _ (q : Place) (u : Placed) (ps : Parts) (h : Named s q) where
        first_found : eqb (entry_at q u).number (suc i) ≡ true → Found (part (some q) u ps)
        unfolding entries_in members present any value_of MemberAt
        first_found e = record {
          value = u;
          name = q;
          there = inl (name_numbered q u h (eqb-true _ (suc i) e), refl);
          number = eqb-true _ (suc i) e;
          present = ap (λ (b : Bool). b || present (suc i) (entries_at ps)) e;
          valued = ap (λ (b : Bool). cond b (place_of u) (value_of (suc i) (entries_at ps))) e;
          passes = λ f p. ((or_false (f (entry_at q u)) (any f (entries_at ps))).0 p).0;
        }

        later_found : eqb (entry_at q u).number (suc i) ≡ false → Found ps → Found (part (some q) u ps)
        unfolding entries_in members present any value_of MemberAt
        later_found e r = record {
          value = r.value;
          name = r.name;
          there = inr r.there;
          number = r.number;
          present = ap (λ (b : Bool). b || present (suc i) (entries_at ps)) e ∙ r.present;
          valued = ap (λ (b : Bool). cond b (place_of u) (value_of (suc i) (entries_at ps))) e ∙ r.valued;
          passes = λ f p. r.passes f ((or_false (f (entry_at q u)) (any f (entries_at ps))).0 p).1;
        }

        still_missing : eqb (entry_at q u).number (suc i) ≡ false → Missing ps → Missing (part (some q) u ps)
        unfolding entries_in members present any value_of NoMember
        still_missing e r = record {
          none = ((λ a. eqb-false _ (suc i) e (numbered_name q u h a)), r.none);
          absent = ap (λ (b : Bool). b || present (suc i) (entries_at ps)) e ∙ r.absent;
          valued = ap (λ (b : Bool). cond b (place_of u) (value_of (suc i) (entries_at ps))) e ∙ r.valued;
        }

        found_first : Missing ps ⊎ Found ps → Missing (part (some q) u ps) ⊎ Found (part (some q) u ps)
        found_first others = cases (eqb (entry_at q u).number (suc i)) refl
          where
            cases : (b : Bool) → eqb (entry_at q u).number (suc i) ≡ b →
                Missing (part (some q) u ps) ⊎ Found (part (some q) u ps)
            cases true e = inr (first_found e)
            cases false e =
                elim others [ inl m ↦ inl (still_missing e m) | inr r ↦ inr (later_found e r) ]

      -- One without a name changes nothing.

      missing_on : (u : Placed) (ps : Parts) → Missing ps → Missing (part none u ps)
      unfolding members NoMember
      missing_on u ps r = record { none = r.none; absent = r.absent; valued = r.valued }

      found_on : (u : Placed) (ps : Parts) → Found ps → Found (part none u ps)
      unfolding members MemberAt
      found_on u ps r = record {
        value = r.value;
        name = r.name;
        there = r.there;
        number = r.number;
        present = r.present;
        valued = r.valued;
        passes = r.passes;
      }

      pub member_at_lem : (ps : Parts) → NamesStand s ps → Missing ps ⊎ Found ps
      unfolding NamesStand entries_in members present any value_of NoMember
      member_at_lem done h = inl (record { none = tt; absent = refl; valued = refl })
      member_at_lem (part none u ps) h =
          elim (member_at_lem ps h) [ inl m ↦ inl (missing_on u ps m) | inr r ↦ inr (found_on u ps r) ]
      member_at_lem (part (some q) u ps) h = found_first q u ps h.0 (member_at_lem ps h.1)

      -- A header's rows, where what refuses nothing has the header be an object.
      pub header_rows : (ps : Parts) → NamesStand s ps → EverywhereIn (Shown 12 s) ps → EverywhereIn (Sits s 1) ps →
          (test : Entry → Bool) → ((e : Entry) → e.number ≡ suc i → test e ≡ false → e.member.kind ≡ 0) →
          any test (entries_at ps) ≡ false →
          RowsOf s w ps (members_of s (value_of (suc i) (entries_at ps)).start)
      unfolding members_of
      header_rows ps names shown sits test object passed = cases (member_at_lem ps names)
        where
          cases : Missing ps ⊎ Found ps → RowsOf s w ps (members_of s (value_of (suc i) (entries_at ps)).start)
          cases (inl m) = inl (m.none, ap (λ (q : Place). members_of s q.start) m.valued)
          cases (inr f) =
              let v = f.value in
              let kinds : kind_of v ≡ 0 = object _ f.number (f.passes test passed) in
              let there = member_everywhere (Sits s 1) s w v ps f.there sits in
              let starts = (everywhere_here (Sits s 1) v there).starts in
              let off : eqb (start_of v) 0 ≡ false = ne_eqb (start_of v) 0 (λ e. omega arith) in
              inr (
                v,
                f.there,
                ap (λ (q : Place). members_of s q.start) f.valued
                    ∙ ap (λ (b : Bool). cond b [] (members_at 12 s (start_of v))) off
                    ∙ shown_members s v (member_everywhere (Shown 12 s) s w v ps f.there shown) kinds,
              )

-- Elements: the n-th part of an array is its n-th element.

pub element_at : {A : Type 0} (at : List A → ℕ → A) → ((x : A) (xs : List A) → at (x ∷ xs) zero ≡ x) →
    ((x : A) (xs : List A) (n : ℕ) → at (x ∷ xs) (suc n) ≡ at xs n) → (g : Element → A) (ps : Parts) → Unnamed ps →
    (n : ℕ) → n < length (elements ps) →
    (v : Placed) × PartAt n v ps × (at (map g (elements ps)) n ≡ g (element_of v))
unfolding Unnamed elements PartAt
element_at at z r g done u n h = absurd (omega arith)
element_at at z r g (part (some q) v ps) u n h = absurd u
element_at at z r g (part none v ps) u zero h = (v, refl, z _ _)
element_at at z r g (part none v ps) u (suc n) h =
    let w = element_at at z r g ps u n (omega arith) in (w.0, w.1, r _ _ n ∙ w.2)

pub element_every : (P : Element → Type 0) (ps : Parts) → Unnamed ps → (n : ℕ) (v : Placed) → PartAt n v ps →
    Every P (elements ps) → P (element_of v)
unfolding Unnamed elements PartAt
element_every P done u n v h e = absurd h
element_every P (part (some q) x ps) u n v h e = absurd u
element_every P (part none x ps) u zero v h e = subst (λ (y : Placed). P (element_of y)) h e.0
element_every P (part none x ps) u (suc n) v h e = element_every P ps u n v h e.1
