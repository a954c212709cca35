-- The tests on all texts, and the order that they make.
use mathlib.Core.Path.{◌≡◌, refl, ap, ap₂, sym, ◌∙◌}
use mathlib.Core.Bool.{Bool, true, false, ◌||◌}
use mathlib.Core.List.{List, [], ◌∷◌}
use Prim.Native.Nat.{ℕ, ◌≤◌, ◌<◌}
use native.Mathlib.Omega.{arith}
use lib.ListN.{length}
use borrow.Author.Tests.{lt-ltb, le-ltb}
use Rattle.prelude.specs.Any.{any}
use Rattle.prelude.specs.Limits.{levels, longest}
use Rattle.prelude.specs.Refusals.{Test, ◌if◌, first, stage_of}
use Rattle.prelude.proofs.Refusals.{first_fails, first_passes}
use Rattle.prelude.specs.Refusals.{Refused}
use Rattle.headers.specs.Headers.{too_long}
use Rattle.headers.proofs.Stages.{refuses}
use Rattle.jose.specs.declared.Sizes.{Sizes}
use Rattle.recipients.specs.Table.{RawRecipient}
use Rattle.json_message.specs.WriteOrder.{unread_within}
use Rattle.json_message.specs.Inner.Judged.{shared_levels, own_levels}
use Rattle.json_message.specs.Inner.PiecesOrder.{hollow_text}
use Rattle.json_message.proofs.FieldEntries.{or_false}
use Rattle.json_message.proofs.Unread.{text_iff, text_more}
use Rattle.json_judge.specs.Inner.Asked.{Readable, OwnReadable, OwnShort, unread_texts, hollow_texts}
use Rattle.json_judge.specs.Inner.Asked.{over_tests, within_tests, parameters_tests}

-- One of three.
module _ (a b c : Bool) where
  first_of : a ≡ true → true ≡ (a || (b || c))
  first_of e = sym (ap (λ (x : Bool). x || (b || c)) e)

  second_of : a ≡ false → b ≡ true → true ≡ (a || (b || c))
  second_of e f = sym (ap₂ (λ (x y : Bool). x || (y || c)) e f)

  third_of : a ≡ false → b ≡ false → c ≡ (a || (b || c))
  third_of e f = sym (ap₂ (λ (x y : Bool). x || (y || c)) e f)

-- 7 on all texts.
module _ (l m : ℕ) (header shared : List ℕ) (rs : List RawRecipient) where
  abbrev own : Bool
  own = any (λ r. unread_within m r.header) rs

  pub unread_first : unread_within levels header ≡ true → true ≡ unread_texts l m header shared rs
  unfolding unread_texts
  unread_first = first_of (unread_within levels header) (unread_within l shared) own

  pub unread_second : unread_within levels header ≡ false → unread_within l shared ≡ true → true ≡ unread_texts l m header shared rs
  unfolding unread_texts
  unread_second = second_of (unread_within levels header) (unread_within l shared) own

  pub unread_third : unread_within levels header ≡ false → unread_within l shared ≡ false → own ≡ unread_texts l m header shared rs
  unfolding unread_texts
  unread_third = third_of (unread_within levels header) (unread_within l shared) own

-- 10 on all texts.
module _ (header shared : List ℕ) (rs : List RawRecipient) where
  abbrev hollow : Bool
  hollow = any (λ r. hollow_text r.header) rs

  pub hollow_first : hollow_text header ≡ true → true ≡ hollow_texts header shared rs
  unfolding hollow_texts
  hollow_first = first_of (hollow_text header) (hollow_text shared) hollow

  pub hollow_second : hollow_text header ≡ false → hollow_text shared ≡ true → true ≡ hollow_texts header shared rs
  unfolding hollow_texts
  hollow_second = second_of (hollow_text header) (hollow_text shared) hollow

  pub hollow_third : hollow_text header ≡ false → hollow_text shared ≡ false → hollow ≡ hollow_texts header shared rs
  unfolding hollow_texts
  hollow_third = third_of (hollow_text header) (hollow_text shared) hollow

-- A stage that stops at a test, and one that passes it.
module _ (n : ℕ) (b : Bool) (ts : List Test) (k : ℕ) where
  stops : b ≡ true → 0 < n → Refused n ≡ stage_of (first (n if b ∷ ts)) k
  stops e h = refuses k h ∙ ap (λ (m : ℕ). stage_of m k) (sym (first_fails (n if b) ts e))

  goes_on : b ≡ false → stage_of (first ts) k ≡ stage_of (first (n if b ∷ ts)) k
  goes_on e = ap (λ (m : ℕ). stage_of m k) (sym (first_passes (n if b) ts e))

-- A message that would be too long.
module _ (header shared : List ℕ) (rs : List RawRecipient) (k : ℕ) where
  abbrev over : ℕ
  over = first (over_tests header shared rs)

  abbrev unread : Bool
  unread = unread_texts levels levels header shared rs

  pub over_long : 4096 < length header → Refused 6 ≡ stage_of over k
  unfolding over_tests
  over_long h = stops 6 (too_long header) _ k (lt-ltb 4096 (length header) h) (omega arith)

  pub over_unread : length header ≤ 4096 → unread ≡ true → Refused 7 ≡ stage_of over k
  unfolding over_tests
  over_unread h e =
      stops 7 unread _ k e (omega arith) ∙ goes_on 6 (too_long header) _ k (le-ltb 4096 (length header) h)

  pub over_over : length header ≤ 4096 → unread ≡ false → Refused 2 ≡ stage_of over k
  unfolding over_tests
  over_over h e =
      stops 2 true [] k refl (omega arith)
      ∙ goes_on 7 unread _ k e
      ∙ goes_on 6 (too_long header) _ k (le-ltb 4096 (length header) h)

-- One that would not.
module _ (general : Bool) (known : List (List ℕ)) (header shared : List ℕ) (z : Sizes) (rs : List RawRecipient) (k : ℕ) where
  abbrev within : ℕ
  within = first (within_tests general known header shared z rs)

  abbrev deep : Bool
  deep = unread_texts shared_levels (own_levels general) header shared rs

  pub within_long : 4096 < length header → Refused 6 ≡ stage_of within k
  unfolding within_tests
  within_long h = stops 6 (too_long header) _ k (lt-ltb 4096 (length header) h) (omega arith)

  module _ (short : length header ≤ 4096) where
    passes_six : too_long header ≡ false
    passes_six = le-ltb 4096 (length header) short

    pub within_unread : deep ≡ true → Refused 7 ≡ stage_of within k
    unfolding within_tests
    within_unread e = stops 7 deep _ k e (omega arith) ∙ goes_on 6 (too_long header) _ k passes_six

    pub within_hollow : deep ≡ false → hollow_texts header shared rs ≡ true → Refused 10 ≡ stage_of within k
    unfolding within_tests
    within_hollow e f =
        stops 10 (hollow_texts header shared rs) _ k f (omega arith)
        ∙ goes_on 7 deep _ k e
        ∙ goes_on 6 (too_long header) _ k passes_six

    pub within_rest : deep ≡ false → hollow_texts header shared rs ≡ false →
        stage_of (first (parameters_tests known header shared z rs)) k ≡ stage_of within k
    unfolding within_tests
    within_rest e f =
        goes_on 10 (hollow_texts header shared rs) _ k f ∙ goes_on 7 deep _ k e ∙ goes_on 6 (too_long header) _ k passes_six

-- Texts that read where they will stand read alone.

more_levels : (l : ℕ) → l ≤ levels → (w : List ℕ) → unread_within l w ≡ false → unread_within levels w ≡ false
more_levels l h w e = (text_iff levels w).1 (text_more l levels h w ((text_iff l w).0 e))

own_readable : (l : ℕ) → l ≤ levels → (rs : List RawRecipient) → any (λ r. unread_within l r.header) rs ≡ false → OwnShort rs →
    OwnReadable rs
unfolding any
own_readable l h [] e s = tt
own_readable l h (r ∷ rs) e s =
    let o = or_false (unread_within l r.header) (any (λ q. unread_within l q.header) rs) e in
    (record { short = s.0; reads = more_levels l h r.header o.0 }, own_readable l h rs o.1 s.1)

module _ (general : Bool) (header shared : List ℕ) (rs : List RawRecipient) (short : length header ≤ 4096)
    (sharedShort : length shared ≤ longest) (ownShort : OwnShort rs)
    (read : unread_texts shared_levels (own_levels general) header shared rs ≡ false) where
  parts : (unread_within levels header ≡ false)
      × ((unread_within shared_levels shared ≡ false) × (any (λ r. unread_within (own_levels general) r.header) rs ≡ false))
  unfolding unread_texts
  parts =
      let a = or_false (unread_within levels header) _ read in
      (a.0, or_false (unread_within shared_levels shared) (any (λ r. unread_within (own_levels general) r.header) rs) a.1)

  own_fewer : (g : Bool) → own_levels g ≤ levels
  own_fewer true = omega arith
  own_fewer false = omega arith

  pub texts_readable : Readable header × (Readable shared × OwnReadable rs)
  texts_readable = (
    record { short = omega (arith, short); reads = parts.0 },
    (
      record { short = sharedShort; reads = more_levels shared_levels (omega arith) shared parts.1.0 },
      own_readable (own_levels general) (own_fewer general) rs parts.1.1 ownShort,
    ),
  )
