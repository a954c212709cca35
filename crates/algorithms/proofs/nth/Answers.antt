-- `nth` answers by the definition: 0 has none, and the others stand one place before their number.
use Rattle.std.proofs.Common.{◌≡◌, ℕ, zero, suc, List, [], ◌∷◌, refl, sym, arith, length, get_or, Bor, Option, Some, None, is_some, IfSome, ltb, slice_get}
use Rattle.std.specs.Option.{option_copied}
use Rattle.std.proofs.lemmas.Option.{slice_get_read, slice_get_past}
use Rattle.std.proofs.Math.Path.{◌∙◌, ap}
use borrow.Author.Tests.{ltb-true, ltb-false}
use Rattle.algorithms.specs.Algorithms.{nth}
use Rattle.algorithms.proofs.nth.Goals as goal

nth_zero : {A : Type 0} (xs : List A) → nth xs 0 ≡ None
unfolding nth
nth_zero [] = refl
nth_zero (x ∷ xs) = refl

nth_suc : {A : Type 0} (xs : List A) (k : ℕ) → slice_get xs k ≡ nth xs (suc k)
unfolding nth
nth_suc [] k = refl
nth_suc (x ∷ xs) zero = refl
nth_suc (x ∷ xs) (suc k) = nth_suc xs k

-- what `get` answers, copied
got : {A : Type 0} (xs : List A) (k : ℕ) (r : Option (Bor A)) → is_some r ≡ ltb k (length xs) →
    IfSome r (λ x. x.now ≡ get_or xs k x.now) → option_copied r ≡ slice_get xs k
got xs k None e h = sym (slice_get_past xs k (ltb-false k (length xs) (sym e)))
got xs k (Some x) e h = sym (slice_get_read xs (length xs) k x.now refl (ltb-true k (length xs) (sym e)) h)

pub returns-in_err-checked_sub : goal.returns-in_err-checked_sub
returns-in_err-checked_sub g c =
    let zero : c.args.n ≡ 0 = omega (arith, c.in_err-checked_sub.ensures) in
    c.from_residual.ensures ∙ sym (ap (nth c.args.all.now) zero ∙ nth_zero c.args.all.now)

pub returns : goal.returns
returns g c =
    let k = c.in_ok-checked_sub.field-0 in
    let next : suc k ≡ c.args.n = omega (arith, c.in_ok-checked_sub.ensures) in
    c.copied.ensures ∙ got c.args.all.now k c.get.result c.get.ensures.lookup.0 c.get.ensures.lookup.1
    ∙ nth_suc c.args.all.now k ∙ ap (nth c.args.all.now) next
