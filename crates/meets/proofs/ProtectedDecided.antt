-- Refusals 6, 7 and 10 on the protected header of a JSON message: where it is absent its text is empty and has no
-- members; where it is there, the tests decide that it is an object with a member.
use mathlib.Core.Path.{◌≡◌, refl, ap, sym, subst, ◌∙◌}
use mathlib.Core.Bool.{Bool, true, false, cond, true≢false}
use mathlib.Core.Logic.{◌↔◌, inl, inr}
use mathlib.Core.List.{List, [], ◌∷◌, ◌++◌}
use Prim.Native.Nat.{ℕ}
use native.Mathlib.Omega.{arith}
use lib.ListN.{length}
use borrow.Author.Tests.{ltb-false, le-ltb}
use Rattle.prelude.specs.Ascii.{ascii}
use Rattle.grammar.specs.Grammar.{string}
use Rattle.grammar.specs.Places as places
use Rattle.grammar.specs.Reader.{pass_over, skip, rows_at, rows_in, members_at}
use Rattle.prelude.specs.Any.{any}
use Rattle.rows.specs.Rows.{Entry, present, value_of}
use Rattle.prelude.specs.Refusals.{Test, ◌if◌, first}
use Rattle.headers.specs.Headers.{unread, text_order, too_long, outermost}
use Rattle.shape.specs.Recipients.{top_of}
use Rattle.jwe.specs.General.{is_hollow, protected_order}
use Rattle.meets.specs.Members.{Member}
use Rattle.meets.specs.Meets.{Protected, members_read, Component, ProtectedIn}
use Rattle.meets.proofs.OneForOne.{OneForOne}
use Rattle.meets.proofs.Standing.{MemberStands}
use Rattle.meets.proofs.Rows.{unread_decides, outermost_stand}
use Rattle.meets.proofs.Deciding.{FalseWhere, first_none}
use Rattle.meets.proofs.Lookups.{Lookup, missing, single, only_there, none_named}
use Rattle.meets.proofs.Orders.{Numbered, numbered_either}

-- The empty text has no members.
no_members : outermost [] ≡ []
unfolding outermost members_at rows_in rows_at skip pass_over
no_members = refl

-- A text that is read

pub hollow_where : (header : List ℕ) (hs : List Member) (rows : List places.Member) → OneForOne (MemberStands header) hs rows →
    FalseWhere (is_hollow rows) (hs ≡ [] → ⊥)
hollow_where header [] [] z = ((λ e. absurd (true≢false e)), (λ n. absurd (n refl)))
hollow_where header [] (m ∷ ms) z = absurd z
hollow_where header (h ∷ hs) [] z = absurd z
hollow_where header (h ∷ hs) (m ∷ ms) z = ((λ e p. omega (arith, ap length p)), (λ n. refl))

-- The tests where there is one.

module _ (es : List Entry) (header : List ℕ) where
  abbrev tests : List Test
  tests = text_order header ++ (10 if is_hollow (outermost header) ∷ [])

  pub order_is : (b : Bool) → present 1 es ≡ b → protected_order (top_of es) header ≡ cond b tests []
  unfolding protected_order
  order_is b e = ap (λ (x : Bool). cond x tests []) e

  pub protected_numbered : Numbered (protected_order (top_of es) header)
  unfolding protected_order text_order any
  protected_numbered = numbered_either (present 1 es) tests [] refl refl

module _ (message : List ℕ) (ps : List Member) (es : List Entry) (header : List ℕ)
    (l : Lookup message (ascii "protected") ps (value_of 1 es) (present 1 es))
    (c : Component (ascii "protected") ps header) where
  -- The members stand where the rows of the text say.
  pub protected_stands : (hs : List Member) → ProtectedIn ps header hs →
      OneForOne (MemberStands header) hs (outermost header)
  protected_stands hs (inl i) =
      let none : header ≡ [] = elim c [
        | inl k ↦ k.1
        | inr k ↦ absurd (none_named (ascii "protected") ps (string k.0) i.0 k.1)
      ] in
      subst (λ (us : List Member). OneForOne (MemberStands header) us (outermost header)) (sym i.1)
      (subst (λ (w : List ℕ). OneForOne (MemberStands w) [] (outermost w)) (sym none)
      (subst (λ (ms : List places.Member). OneForOne (MemberStands []) [] ms) (sym no_members) tt))
  protected_stands hs (inr (p, i, n)) =
      subst (λ (us : List Member). OneForOne (MemberStands header) us (outermost header)) (sym i)
      (outermost_stand header p.reading)

  pub protected_decided : (first (protected_order (top_of es) header) ≡ 0) ↔ ((hs : List Member) × ProtectedIn ps header hs)
  unfolding first text_order any
  protected_decided = cases l
    where
      all : (first (tests es header) ≡ 0)
          ↔ ((too_long header ≡ false) × ((unread header ≡ false) × ((is_hollow (outermost header) ≡ false) × Unit {0})))
      all = first_none (tests es header) refl

      cases : Lookup message (ascii "protected") ps (value_of 1 es) (present 1 es) →
          (first (protected_order (top_of es) header) ≡ 0) ↔ ((hs : List Member) × ProtectedIn ps header hs)
      cases (missing t a e) = ((λ f. ([], inl (a, refl))), (λ h. ap first (order_is es header false t)))
      cases (single v t o) = (
        (λ f.
            let g = all.0 (ap first (sym (order_is es header true t)) ∙ f) in
            let short = ltb-false 4096 (length header) g.0 in
            let reading = (unread_decides header).0 g.1.0 in
            let p : Protected header = record { short = omega arith; reading = reading } in
            let full = hollow_where header (members_read p) (outermost header) (outermost_stand header reading) in
            (members_read p, inr (p, refl, full.0 g.1.1.0))),
        (λ h. elim h.1 [
          | inl i ↦ absurd (only_there message (ascii "protected") ps (value_of 1 es) v o i.0)
          | inr i ↦ ap first (order_is es header true t)
              ∙ all.1 (
                le-ltb 4096 (length header) i.0.short,
                (
                  (unread_decides header).1 i.0.reading,
                  (
                    (hollow_where header h.0 (outermost header) (protected_stands h.0 h.1)).1 i.2,
                    tt,
                  ),
                ),
              )
        ]),
      )
