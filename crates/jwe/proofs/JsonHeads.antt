-- From the own headers on: the first refusal, and the numbers that are handed out.
use mathlib.Core.Path.{◌≡◌, ap, ap₂, ◌∙◌}
use mathlib.Core.Bool.{Bool, true, cond}
use mathlib.Core.List.{List, [], ◌∷◌}
use Prim.Native.Nat.{ℕ, ◌<◌}
use lib.ListN.{length}
use lib.Dec.{leb}
use borrow.Author.Tests.{lt-leb}
use Rattle.rows.specs.Rows.{Entry, read_texts}
use Rattle.prelude.specs.Refusals.{Test, ◌if◌, first}
use Rattle.prelude.proofs.Refusals.{nonzero, nonzero_append}
use Rattle.jose.specs.HeaderRules.{mode_in}
use Rattle.headers.specs.Components as headers
use Rattle.headers.specs.Answers.{components_of}
use Rattle.prelude.specs.Refusals.{Stage}
use Rattle.prelude.specs.Refusals.{Refused}
use Rattle.shape.specs.Shape.{Recipient}
use Rattle.jwe.specs.Judge.{Outcome, place, accepted, refused}
use Rattle.jwe.specs.Answers.{numbers, refused_by}
use Rattle.jwe.specs.Inner.Stages.{own_tests, rule_tests, ruled_tests, all_tests, headed_order, Judges}
use Rattle.headers.specs.declared.Components.{Components}
use Rattle.jwe.specs.Answers.{Result}
use Rattle.jwe.proofs.Answering.{refuses}
use Rattle.jwe.proofs.JsonOrder.{stop, skip, own_nonzero, rule_nonzero, content_nonzero}

module _ (known : List (List ℕ)) (header message : List ℕ) (front : List Entry) (q : headers.Components)
    (rs : List Recipient) (recipient : ℕ) where
  abbrev order : List Test
  order = headed_order known header message front q rs recipient

  abbrev asks : List Test
  asks = 19 if leb (length rs) recipient ∷ []

  abbrev all : List Test
  all = all_tests known header message front q rs

  pub all_nonzero : nonzero all ≡ true
  unfolding all_tests ruled_tests
  all_nonzero =
      nonzero_append (own_tests message rs) _ (own_nonzero message rs)
      (nonzero_append (rule_tests known header message front q rs) _ (rule_nonzero known header message front q rs)
      (content_nonzero header message front rs))

  -- A recipient refused, or all of them passed.
  pub heads_all : {n : ℕ} → first all ≡ n → 0 < n → first order ≡ n
  unfolding headed_order
  heads_all e h = stop all asks all_nonzero e h

  module _ (passed : first all ≡ 0) where
    past_all : first order ≡ first asks
    unfolding headed_order
    past_all = skip all asks all_nonzero passed

    pub heads_one : recipient < length rs → first order ≡ 0
    unfolding first
    heads_one h = past_all ∙ ap (λ (b : Bool). cond {A = ℕ} b 19 0) (lt-leb (length rs) recipient h)

  -- The own headers refused, or passed.
  pub own_refuses : {n : ℕ} → first (own_tests message rs) ≡ n → 0 < n → first all ≡ n
  unfolding all_tests
  own_refuses e h = stop (own_tests message rs) _ (own_nonzero message rs) e h

  pub own_passes : first (own_tests message rs) ≡ 0 → first all ≡ first (ruled_tests known header message front q rs)
  unfolding all_tests
  own_passes e = skip (own_tests message rs) _ (own_nonzero message rs) e

-- A stage's refusal, handed up, is what is answered.
module _ (message : List ℕ) (order : List Test) (x : Outcome) (n : ℕ) (r : Result) (stage : Stage)
    (up : numbers r ≡ refused (refused_by stage)) (told : stage ≡ Refused n) (is : first order ≡ n) (some : 0 < n) where
  refused_n : numbers r ≡ refused n
  refused_n = up ∙ ap (λ (s : Stage). refused (refused_by s)) told

  pub judges_refused : (text₀ text table₀ table : List ℕ) → length text ≡ length text₀ → length table ≡ length table₀ →
      Judges message order x r text₀ text table₀ table
  judges_refused = refuses message order x r refused_n is some

-- The numbers of a result

laid : ℕ → ℕ → ℕ → headers.Components → ℕ → ℕ → List ℕ
laid form count mode q size parameters =
    0
    ∷ form
    ∷ count
    ∷ mode
    ∷ place q.protected
    (place q.key
    (place q.iv (place q.aad (place q.ciphertext (place q.tag (size ∷ parameters ∷ []))))))

pub result_is : (message : List ℕ) (x : Outcome) (form count mode : ℕ) (q : Components) (size parameters : ℕ) →
    form ≡ x.form → count ≡ x.recipients → mode ≡ mode_in (read_texts x.header message) x.entries →
    components_of q ≡ x.components → size ≡ length x.header → parameters ≡ length x.entries →
    numbers
    (record {
      number = 0;
      form = form;
      recipients = count;
      mode = mode;
      components = q;
      header = size;
      parameters = parameters;
    })
    ≡ accepted message x
unfolding accepted laid
result_is message x form count mode q size parameters f c m p s n =
    ap₂ (λ (a b : ℕ). laid a b mode (components_of q) size parameters) f c
    ∙ ap₂ (λ (a : ℕ) (b : headers.Components). laid x.form x.recipients a b size parameters) m p
    ∙ ap₂ (λ (a b : ℕ). laid x.form x.recipients (mode_in (read_texts x.header message) x.entries) x.components a b) s n
