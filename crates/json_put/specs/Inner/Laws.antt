-- What comes one behind the other: what may come in two parts may come part by part, and what came in two parts came whole.
use Rattle.std.specs.Prelude.{List, [], ◌++◌}

pub record Laws {S A : Type 0} (fits : S → List A → Type 0) (gains : S → List A → S → Type 0) : Type 0 where
  pub none : (s : S) → gains s [] s
  pub front : (s : S) (xs ys : List A) → fits s (xs ++ ys) → fits s xs
  pub back : (s m : S) (xs ys : List A) → fits s (xs ++ ys) → gains s xs m → fits m ys
  pub both : (s m t : S) (xs ys : List A) → fits s (xs ++ ys) → gains s xs m → gains m ys t → gains s (xs ++ ys) t
