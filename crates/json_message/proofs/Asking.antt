-- The writer's refusals from 6 on are those asked by the pieces, and in the order in which the code asks them.
use mathlib.Core.Path.{◌≡◌, refl, sym, ap, ◌∙◌}
use mathlib.Core.List.{List, [], ◌∷◌, ◌++◌, append_assoc}
use mathlib.Core.Bool.{Bool, true, false, ◌||◌, cond, true≢false}
use Prim.Native.Nat.{ℕ}
use lib.ListN.{length}
use lib.Dec.{ltb}
use Rattle.prelude.specs.Limits.{longest, levels}
use Rattle.prelude.specs.Refusals.{Test, ◌if◌, first}
use Rattle.prelude.proofs.Refusals.{first_fails, first_passes}
use Rattle.headers.specs.Headers.{too_long, unread, text_order, outermost}
use Rattle.jwe.specs.General.{is_hollow, json_order}
use Rattle.json_message.specs.JsonText.{RawMessage, json_text}
use Rattle.json_message.specs.WriteOrder.{unread_within, unread_alone, message_order}
use Rattle.json_message.specs.Inner.PiecesOrder.{unread_inside, hollow_text, hollow_inside, protected_tests, parameters_order}
use Rattle.json_message.specs.Inner.PiecesOrder.{pieces_order}
use Rattle.json_message.specs.Inner.AskedOrder.{over_order, later_order, within_order, asked_order}
use Rattle.json_message.proofs.Agree.{Agree, step_first, agree_refl, agree_trans, agree_append, agree_pass, agree_test}
use Rattle.json_message.proofs.Agree.{agree_or}
use Rattle.json_message.proofs.Unread.{inside_iff, alone_iff, inside_alone}

-- Where the protected header is neither too long nor unread, only its members are asked.
protected_agrees : (w : List ℕ) → too_long w ≡ false → unread_within levels w ≡ false →
    Agree (protected_tests w) (10 if hollow_text w ∷ [])
unfolding protected_tests text_order unread
protected_agrees [] a b = record { before = λ ts us e. e ∙ sym (first_passes (10 if false) us refl) }
protected_agrees (c ∷ w) a b =
    agree_append (agree_pass 6 a) (agree_append (agree_pass 7 b) (agree_refl {xs = 10 if is_hollow (outermost (c ∷ w)) ∷ []}))

or_turned : (a b : Bool) → (a || b) ≡ (b || a)
or_turned true true = refl
or_turned true false = refl
or_turned false true = refl
or_turned false false = refl

module _ (general : Bool) (c : RawMessage) (known : List (List ℕ)) (room : ℕ) where
  abbrev last : List Test
  last = 1 if ltb room (length (json_text general c)) ∷ []

  -- The tests on the pieces, from 10 on, where 6 and 7 have passed.
  later_agrees : too_long c.protected ≡ false → unread_within levels c.protected ≡ false →
      unread_inside general c ≡ false → first (pieces_order general known c ++ last) ≡ first (later_order general c known room)
  unfolding pieces_order later_order
  later_agrees a b i =
      let h = hollow_text c.protected in
      let rest = parameters_order known c in
      let one : Agree (10 if hollow_inside c ∷ protected_tests c.protected) (10 if (h || hollow_inside c) ∷ []) =
      agree_trans
      (agree_append (agree_refl {xs = 10 if hollow_inside c ∷ []}) (protected_agrees c.protected a b))
      (agree_trans (agree_or 10 (hollow_inside c) h) (agree_test 10 (or_turned (hollow_inside c) h))) in
      first_passes (7 if unread_inside general c) _ i
      ∙ ap (λ (ts : List Test). first (10 if hollow_inside c ∷ ts)) (append_assoc (protected_tests c.protected) rest last)
      ∙ one.before (rest ++ last) (rest ++ last) refl

  -- Where the message is not too long: the first 7 is one of the texts alone, the second one where they will stand, and the
  -- first implies the second.
  module _ (judged : unread_alone c ≡ false → Agree (json_order (json_text general c) known 0) (pieces_order general known c)) where
    abbrev unread_here : Bool
    unread_here = unread_within levels c.protected || unread_inside general c

    here_alone : unread_here ≡ false → unread_alone c ≡ false
    here_alone e = cases (unread_within levels c.protected) (unread_inside general c) refl refl e
      where
        cases : (p i : Bool) → unread_within levels c.protected ≡ p → unread_inside general c ≡ i → (p || i) ≡ false →
            unread_alone c ≡ false
        cases true i x y e = absurd (true≢false e)
        cases false i x y e = (alone_iff c).1 (x, inside_alone general c ((inside_iff general c).0 (y ∙ e)))

    seven : too_long c.protected ≡ false → (a b : Bool) → unread_alone c ≡ a → unread_here ≡ b →
        first (7 if unread_alone c ∷ (json_order (json_text general c) known 0 ++ last))
        ≡ first (7 if unread_here ∷ later_order general c known room)
    unfolding pieces_order
    seven short true true x y = first_fails (7 if unread_alone c) _ x ∙ sym (first_fails (7 if unread_here) _ y)
    seven short true false x y = absurd (true≢false (sym x ∙ here_alone y))
    seven short false true x y =
        let q = ((alone_iff c).0 x).0 in
        let i : unread_inside general c ≡ true = sym (ap (λ b. b || unread_inside general c) q) ∙ y in
        first_passes (7 if unread_alone c) _ x
        ∙ (judged x).before last last refl
        ∙ first_fails (7 if unread_inside general c) _ i
        ∙ sym (first_fails (7 if unread_here) _ y)
    seven short false false x y =
        let q = ((alone_iff c).0 x).0 in
        let i : unread_inside general c ≡ false = sym (ap (λ b. b || unread_inside general c) q) ∙ y in
        first_passes (7 if unread_alone c) _ x
        ∙ (judged x).before last last refl
        ∙ later_agrees short q i
        ∙ sym (first_passes (7 if unread_here) _ y)

    within_first : ltb longest (length (json_text general c)) ≡ false →
        first (message_order general c known room) ≡ first (within_order general c known room)
    unfolding message_order within_order
    within_first fits =
        step_first 6 _ _ refl (λ short.
        step_first 7 _ _ refl (λ _. first_passes (2 if ltb longest (length (json_text general c))) _ fits)
        ∙ seven short (unread_alone c) unread_here refl refl)

    over_first : ltb longest (length (json_text general c)) ≡ true →
        first (message_order general c known room) ≡ first (over_order c)
    unfolding message_order over_order
    over_first over =
        step_first 6 _ _ refl (λ _.
        step_first 7 _ _ refl (λ _.
        first_fails (2 if ltb longest (length (json_text general c))) _ over ∙ sym (first_fails (2 if true) [] refl)))

    pub asked_first : first (message_order general c known room) ≡ first (asked_order general c known room)
    unfolding asked_order
    asked_first = cases (ltb longest (length (json_text general c))) refl
      where
        cases : (b : Bool) → ltb longest (length (json_text general c)) ≡ b →
            first (message_order general c known room)
            ≡ first (cond (ltb longest (length (json_text general c))) (over_order c) (within_order general c known room))
        cases true e =
            over_first e ∙ sym (ap (λ b. first (cond b (over_order c) (within_order general c known room))) e)
        cases false e =
            within_first e ∙ sym (ap (λ b. first (cond b (over_order c) (within_order general c known room))) e)
