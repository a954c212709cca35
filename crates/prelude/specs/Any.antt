-- Whether something holds of one of a list, or of two of it.
use Rattle.std.specs.Prelude.{List, [], ◌∷◌, Bool, false, ◌||◌}

-- Of one.
unfoldable pub any : {A : Type 0} → (A → Bool) → List A → Bool
any f [] = false
any f (x ∷ xs) = f x || any f xs

-- Of two, the first of them before the second.
unfoldable pub any_pair : {A : Type 0} → (A → A → Bool) → List A → Bool
any_pair f [] = false
any_pair f (x ∷ xs) = any (f x) xs || any_pair f xs
