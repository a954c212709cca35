-- What a test finds by a name's number: where no name stands twice, the first member of that name is the only one; and
-- of a component found so, its text, and of a header, its members.
use mathlib.Core.Path.{◌≡◌, refl, ap, sym, subst, ◌∙◌}
use mathlib.Core.Bool.{Bool, true, false, ◌||◌, cond}
use mathlib.Core.Logic.{inl, inr}
use mathlib.Core.List.{List, [], ◌∷◌}
use Prim.Native.Nat.{ℕ, ◌≤◌}
use native.Mathlib.Omega.{arith}
use lib.Dec.{T, eqb}
use borrow.Author.Tests.{ne_eqb}
use Rattle.grammar.specs.Grammar.{Str, Value}
use Rattle.grammar.specs.Places.{Place}
use Rattle.grammar.specs.Strings.{says, SayAlike, HasOctets}
use Rattle.grammar.specs.Utf8.{points}
use Rattle.grammar.specs.Spellings.{sayable}
use Rattle.grammar.specs.Bounds.{Every}
use Rattle.grammar.specs.Reader.{members_at}
use Rattle.grammar.proofs.Theorems.{says_octets}
use Rattle.prelude.specs.Any.{any}
use Rattle.rows.specs.Rows.{Entry, numbered, present, value_of}
use Rattle.headers.specs.Components.{absent}
use Rattle.headers.specs.Headers as headers
use Rattle.meets.specs.Members.{Member, members_of, names_of, Distinct, Named, Absent}
use Rattle.meets.specs.Rules.{EveryNamed}
use Rattle.meets.specs.Meets.{Header, HeaderIn}
use Rattle.meets.proofs.OneForOne.{OneForOne}
use Rattle.meets.proofs.Standing.{Stands, MemberStands}
use Rattle.meets.proofs.Rows.{members_stand}
use Rattle.meets.proofs.Saying.{refuted}
use Rattle.meets.proofs.Deciding.{TrueWhere, every_map, some_every}
use Rattle.meets.proofs.MemberEntries.{Held, IsMember}
use Rattle.meets.proofs.Shapes.{numbered_as}

-- The one member of a name

-- The value of the only member of a name; it stands at a place of the message.
pub record Only (message w : List ℕ) (ps : List Member) (q : Place) (v : Value) : Type 0 where
  pub named : Named w v ps
  pub only : EveryNamed w (λ u. u ≡ v) ps
  pub stands : Stands message v q.start q.size
  pub later : 1 ≤ q.start

-- The place that a lookup answers, and whether there is one.
pub data Lookup (message w : List ℕ) (ps : List Member) (q : Place) (b : Bool) : Type 0 where
  missing : b ≡ false → Absent w ps → q ≡ absent → Lookup message w ps q b
  single : (v : Value) → b ≡ true → Only message w ps q v → Lookup message w ps q b

-- Strings that have the same octets say the same.
same_octets : (x y : Str) (w : List ℕ) → T (sayable x) → T (sayable y) → HasOctets x w → HasOctets y w → SayAlike x y
unfolding says
same_octets x y w s t p q = ap points (sym (says_octets x s) ∙ p ∙ sym q ∙ says_octets y t)

module _ (message w : List ℕ) where
  no_other_lem : (x : Str) → T (sayable x) → HasOctets x w → (ps : List Member) (es : List Entry) →
      OneForOne (Held message) ps es → Every (λ y. SayAlike x y → ⊥) (names_of ps) → Absent w ps
  no_other_lem x s p [] es z h = tt
  no_other_lem x s p (m ∷ ms) [] z h = absurd z
  no_other_lem x s p (m ∷ ms) (e ∷ es) z h = (
    (λ q. h.0 (same_octets x m.name w s z.0.seen.spells.sayable p q)),
    no_other_lem x s p ms es z.1 h.1,
  )

  pub lookup : (n : ℕ) → IsMember n w → (ps : List Member) (es : List Entry) → OneForOne (Held message) ps es →
      Distinct (names_of ps) → Lookup message w ps (value_of n es) (present n es)
  unfolding value_of present any
  lookup n i [] [] z d = missing refl tt refl
  lookup n i [] (e ∷ es) z d = absurd z
  lookup n i (p ∷ ps) [] z d = absurd z
  lookup n i (p ∷ ps) (e ∷ es) z d = cases (numbered n e) refl (lookup n i ps es z.1 d.1)
    where
      named : TrueWhere (numbered n e) (HasOctets p.name w)
      named = numbered_as message p e z.0 n w i

      here : Place
      here = record { start = e.member.value_start; size = e.member.value_size }

      cases : (b : Bool) → numbered n e ≡ b → Lookup message w ps (value_of n es) (any (numbered n) es) →
          Lookup message w (p ∷ ps) (cond b here (value_of n es)) (b || any (numbered n) es)
      cases true t others =
          let h = named.0 t in
          single p.value refl (record {
            named = inl (h, refl);
            only = (
              (λ g. refl),
              every_map (λ m. HasOctets m.name w → ⊥) (λ m. HasOctets m.name w → m.value ≡ p.value)
                  (λ m f o. absurd (f o)) ps (no_other_lem p.name z.0.seen.spells.sayable h ps es z.1 d.0),
            );
            stands = z.0.stands;
            later = z.0.later;
          })
      cases false t (missing b a q) = missing b ((refuted (numbered n e) named).0 t, a) q
      cases false t (single v b o) =
          single v b (record {
            named = inr o.named;
            only = ((λ g. absurd ((refuted (numbered n e) named).0 t g)), o.only);
            stands = o.stands;
            later = o.later;
          })

-- What holds of every member of the name holds of the only one, and the reverse.
module _ (message w : List ℕ) (ps : List Member) (q : Place) (v : Value) (o : Only message w ps q v) where
  pub of_only : (P : Value → Type 0) → EveryNamed w P ps → P v
  of_only P h =
      some_every (λ m. HasOctets m.name w × (m.value ≡ v)) (λ m. HasOctets m.name w → P m.value)
      (λ m s f. subst P s.1 (f s.0)) ps o.named h

  pub only_of : (P : Value → Type 0) → P v → EveryNamed w P ps
  only_of P h =
      every_map (λ m. HasOctets m.name w → m.value ≡ v) (λ m. HasOctets m.name w → P m.value)
      (λ m f g. subst P (sym (f g)) h) ps o.only

  pub only_named : (u : Value) → Named w u ps → u ≡ v
  only_named u s =
      some_every (λ m. HasOctets m.name w × (m.value ≡ u)) (λ m. HasOctets m.name w → m.value ≡ v)
      (λ m t f. sym t.1 ∙ f t.0) ps s o.only

  pub only_there : Absent w ps → ⊥
  only_there a = of_only (λ u. ⊥) a

-- Where there is none, no value is named.
pub none_named : (w : List ℕ) (ps : List Member) (u : Value) → Absent w ps → Named w u ps → ⊥
none_named w ps u a s =
    some_every (λ m. HasOctets m.name w × (m.value ≡ u)) (λ m. HasOctets m.name w → ⊥) (λ m t f. f t.0) ps s a

-- A header that stands in the message

module _ (message w : List ℕ) (ps : List Member) (q : Place) (b : Bool) (h : EveryNamed w Header ps) where
  pub header_found : Lookup message w ps q b → (hs : List Member) × HeaderIn w ps hs
  header_found (missing t a e) = ([], inl (a, refl))
  header_found (single v t o) = (members_of v, inr (v, o.named, refl))

  pub header_stands : (hs : List Member) → Lookup message w ps q b → HeaderIn w ps hs →
      OneForOne (MemberStands message) hs (headers.members_of message q.start)
  unfolding headers.members_of
  header_stands hs (missing t a e) (inl i) =
      subst (λ (ms : List Member). OneForOne (MemberStands message) ms (headers.members_of message q.start)) (sym i.1)
      (subst (λ (p : Place). OneForOne (MemberStands message) [] (headers.members_of message p.start)) (sym e) tt)
  header_stands hs (missing t a e) (inr (u, n, i)) = absurd (none_named w ps u a n)
  header_stands hs (single v t o) (inl i) = absurd (only_there message w ps q v o i.0)
  header_stands hs (single v t o) (inr (u, n, i)) =
      let k = of_only message w ps q v o Header h in
      let m : hs ≡ members_of v = i ∙ ap members_of (only_named message w ps q v o u n) in
      let s = q.start in
      let l = o.later in
      let f : eqb s 0 ≡ false = ne_eqb s 0 (λ z. omega arith) in
      subst (λ (ms : List Member). OneForOne (MemberStands message) ms (cond (eqb s 0) [] (members_at 12 message s))) (sym m)
      (subst (λ (c : Bool). OneForOne (MemberStands message) (members_of v) (cond c [] (members_at 12 message s))) (sym f)
      (members_stand message v s q.size o.stands k.0))
