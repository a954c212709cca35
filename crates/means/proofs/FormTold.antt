-- A message that meets the rules is JSON exactly where its first octet that is not space is an opening curly bracket.
use mathlib.Core.Path.{sym, ◌∙◌}
use mathlib.Core.Bool.{true≢false}
use mathlib.Core.Logic.{◌↔◌}
use mathlib.Core.List.{List}
use Prim.Native.Nat.{ℕ}
use Rattle.meets.specs.Meets.{OpensCurly, Message, compact, json}
use Rattle.meets.proofs.FormsApart.{forms_apart}
use Rattle.meets.proofs.FormTold.{curly_opens, opens_curly}
use Rattle.means.specs.Means.{IsJson}

pub form_told : {known : List (List ℕ)} {message : List ℕ} (f : Message known message) → IsJson f ↔ OpensCurly message
form_told {known} {message} (compact c) = (
  (λ h. absurd h),
  (λ o. true≢false (sym (curly_opens message o) ∙ (forms_apart known message).0 c)),
)
form_told {known} {message} (json j) =
    ((λ h. opens_curly message ((forms_apart known message).1 j.reading)), (λ o. tt))
