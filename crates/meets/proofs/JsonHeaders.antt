-- The protected and the shared header of a JSON message that no test refuses apply as they are handed out: each one's
-- member is found by its number at its place in the reading, and the reader shows its members there.
use mathlib.Core.Path.{◌≡◌, refl, ap, sym, subst, ◌∙◌}
use mathlib.Core.List.{List, []}
use mathlib.Core.Bool.{Bool, true, false, not, ◌&&◌, ◌||◌, cond}
use mathlib.Core.Logic.{◌⊎◌, inl, inr}
use Prim.Native.Nat.{ℕ, ◌+◌, ◌-◌, ◌<◌, zero-le}
use native.Mathlib.Omega.{arith}
use lib.ListN.{length, get_or}
use lib.Dec.{eqb}
use borrow.Author.Tests.{not-false, eqb-true, ne_eqb}
use Rattle.prelude.specs.Ascii.{ascii}
use Rattle.base64url.specs.Base64url.{sextets, encoded, decoded}
use Rattle.base64url.proofs.Laws.{decode_encode}
use Rattle.parts.specs.Parts as parts
use Rattle.parts.proofs.Laws.{part_fits}
use Rattle.grammar.specs.Places.{Place, Placed, item, Parts, start_of, size_of, kind_of, Member}
use Rattle.grammar.specs.Reader.{octet_at, step, skip_space, rows_at, rows_in, members_at}
use Rattle.grammar.specs.Bounds as bounds
use Rattle.grammar.specs.Readings.{octets_at}
use Rattle.grammar.specs.Shown.{Shown, EverywhereIn}
use Rattle.json_read.proofs.Within.{value_within}
use Rattle.prelude.specs.Any.{any}
use Rattle.rows.specs.Rows.{Entry, value_of}
use Rattle.headers.specs.Components.{absent, misspelled}
use Rattle.headers.specs.Headers.{header_text, outermost, members_of}
use Rattle.shape.specs.Shape.{member_names, protected, unprotected, component, inner, wrong_header, wrong_component}
use Rattle.shape.specs.Shape.{wrong_member, wrong_top, wrong_in_element}
use Rattle.jwe.specs.General.{all_places, any_misspelled}
use Rattle.meets.specs.Handed.{MemberAt, NoMember, RowsOf, ProtectedRows, within}
use Rattle.meets.proofs.Rows.{unread_decides}
use Rattle.meets.proofs.Deciding.{or_false}
use Rattle.meets.proofs.SpelledDecided.{spelling_decided}
use Rattle.meets.proofs.HandedOut.{protected_rows}
use Rattle.meets.proofs.PlacedNames.{NamesStand, Sits}
use Rattle.meets.proofs.MemberPlaced.{member_everywhere, everywhere_here, entries_at, Missing, Found, member_at_lem}
use Rattle.meets.proofs.MemberPlaced.{header_rows}
use Rattle.meets.proofs.JsonPassed.{Passed}

-- The names by their numbers.

pub name_protected : (0 < length member_names) × (get_or member_names 0 [] ≡ ascii "protected")
unfolding member_names
name_protected = (omega arith, refl)

name_unprotected : (1 < length member_names) × (get_or member_names 1 [] ≡ ascii "unprotected")
unfolding member_names
name_unprotected = (omega arith, refl)

pub name_header : (2 < length member_names) × (get_or member_names 2 [] ≡ ascii "header")
unfolding member_names
name_header = (omega arith, refl)

pub name_recipients : (4 < length member_names) × (get_or member_names 4 [] ≡ ascii "recipients")
unfolding member_names
name_recipients = (omega arith, refl)

-- The kinds that a known member has passed.
module _ (message : List ℕ) (e : Entry) where
  abbrev wrong_as : ℕ → Bool
  wrong_as n =
      cond (eqb n 0) false
      (cond (eqb n 2 || eqb n 3) (wrong_header message e)
      (cond (eqb n 5) (not (eqb e.member.kind 1)) (wrong_component message e)))

  header_kind : wrong_header message e ≡ false → e.member.kind ≡ 0
  header_kind h = eqb-true e.member.kind 0 (not-false _ ((or_false _ _).0 h).0)

  shared_object_lem : e.number ≡ 2 → wrong_member message e ≡ false → e.member.kind ≡ 0
  unfolding wrong_member
  shared_object_lem p h = header_kind (subst (λ (n : ℕ). wrong_as n ≡ false) p h)

  pub own_object_lem : e.number ≡ 3 → wrong_member message e ≡ false → e.member.kind ≡ 0
  unfolding wrong_member
  own_object_lem p h = header_kind (subst (λ (n : ℕ). wrong_as n ≡ false) p h)

  pub recipients_array : e.number ≡ 5 → wrong_member message e ≡ false → e.member.kind ≡ 1
  unfolding wrong_member
  recipients_array p h =
      eqb-true e.member.kind 1 (not-false _ (subst (λ (n : ℕ). wrong_as n ≡ false) p h))

  pub element_object : e.number ≡ 3 → wrong_in_element message e ≡ false → e.member.kind ≡ 0
  element_object p h =
      own_object_lem p (subst (λ (n : ℕ). ((eqb n 3 || eqb n 4) && wrong_member message e) ≡ false) p h)

-- A header that is absent has no octets and no members.

pub absent_header : (message : List ℕ) → header_text message absent ≡ []
unfolding header_text encoded sextets
absent_header message = ap decoded (part_fits message 0 0 zero-le) ∙ decode_encode [] tt

outermost_none : outermost [] ≡ []
unfolding outermost members_at rows_in rows_at
outermost_none = cases (eqb (octet_at [] (skip_space [] (step [] (skip_space [] 0)))) 125)
  where
    cases : (b : Bool) → cond {A = List Member} b [] [] ≡ []
    cases true = refl
    cases false = refl

-- Where a placed value ends.
pub placed_within : (s : List ℕ) (v : Placed) → Shown 12 s v →
    bounds.Within (length s) (start_of v) (start_of v + size_of v) (kind_of v)
unfolding Shown
placed_within s (item k q ps) h = value_within 12 s q.start (q.start + q.size) k h.0

module _ (message : List ℕ) (n : ℕ) (ps : Parts) (names : NamesStand message ps)
    (shown : EverywhereIn (Shown 12 message) ps) (sits : EverywhereIn (Sits message 1) ps)
    (passed : Passed message n (entries_at message ps)) where
  abbrev es : List Entry
  es = entries_at message ps

  abbrev header_is : List ℕ
  header_is = header_text message (component protected es)

  pub members_pass : any (wrong_member message) es ≡ false
  unfolding wrong_top
  members_pass = ((or_false (any (wrong_member message) es) _).0 passed.top).0

  protected_spelled_lem : misspelled message (component protected es) ≡ false
  unfolding any_misspelled all_places any
  protected_spelled_lem = ((or_false (misspelled message (component protected es)) _).0 passed.spelled).0

  -- The protected header.
  module _ (f : Found message 0 (ascii "protected") ps) where
    abbrev v : Placed
    v = f.value

    protected_shown : Shown 12 message v
    protected_shown =
        everywhere_here (Shown 12 message) v
        (member_everywhere (Shown 12 message) message (ascii "protected") v ps f.there shown)

    component_within : component protected es ≡ within v
    component_within =
        let w = (placed_within message v protected_shown).past in
        ap inner f.valued
        ∙ ap (λ (b : Bool). cond b absent (within v)) (ne_eqb (size_of v) 0 (λ e. omega arith))

    part_within : parts.part message (start_of v + 1) (size_of v - 2) ≡ octets_at message (within v)
    part_within =
        let w = placed_within message v protected_shown in
        let past = w.past in
        let ends = w.ends in
        part_fits message (start_of v + 1) (size_of v - 2) (omega arith)

    header_encoded : octets_at message (within v) ≡ encoded header_is
    unfolding header_text
    header_encoded =
        let c = component protected es in
        let w = (spelling_decided message c).0 protected_spelled_lem in
        let same : header_is ≡ w.0 = ap decoded (sym w.2) ∙ decode_encode w.0 w.1 in
        sym part_within ∙ ap (λ (q : Place). parts.part message q.start q.size) (sym component_within)
        ∙ sym w.2 ∙ ap encoded (sym same)

  pub protected_applies : (NoMember message (ascii "protected") ps × (header_is ≡ []) × (outermost header_is ≡ []))
      ⊎ ((v : Placed) × MemberAt message (ascii "protected") v ps
      × (octets_at message (within v) ≡ encoded header_is) × ProtectedRows header_is (outermost header_is))
  protected_applies =
      cases (member_at_lem message 0 (ascii "protected") name_protected.0 name_protected.1 ps names)
    where
      cases : Missing message 0 (ascii "protected") ps ⊎ Found message 0 (ascii "protected") ps →
          (NoMember message (ascii "protected") ps × (header_is ≡ []) × (outermost header_is ≡ []))
          ⊎ ((v : Placed) × MemberAt message (ascii "protected") v ps
          × (octets_at message (within v) ≡ encoded header_is) × ProtectedRows header_is (outermost header_is))
      cases (inl m) =
          let e : header_is ≡ [] =
          ap (λ (q : Place). header_text message (inner q)) m.valued ∙ absent_header message in
          inl (m.none, e, ap outermost e ∙ outermost_none)
      cases (inr f) =
          inr (
            f.value,
            f.there,
            header_encoded f,
            protected_rows header_is ((unread_decides header_is).0 (passed.protected f.present).1),
          )

  -- The shared header.
  pub shared_applies : RowsOf message (ascii "unprotected") ps (members_of message (value_of unprotected es).start)
  shared_applies =
      header_rows message 1 (ascii "unprotected") name_unprotected.0 name_unprotected.1 ps names shown sits
      (wrong_member message) (shared_object_lem message) members_pass
