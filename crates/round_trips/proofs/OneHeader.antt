-- The rules on a recipient whose parameters all stand in its protected header: the message's text is not asked, and 12
-- and 16 cannot fail. So the reader's rules are the writer's.
use mathlib.Core.Path.{◌≡◌, refl, ap, ap₂, ◌∙◌}
use mathlib.Core.Bool.{Bool, true, false, ◌&&◌, ◌||◌}
use mathlib.Core.List.{List, [], ◌∷◌, map}
use Prim.Native.Nat.{ℕ}
use Rattle.grammar.specs.Places.{Member}
use Rattle.prelude.specs.Any.{any, any_pair}
use Rattle.prelude.specs.Refusals.{first}
use Rattle.rows.specs.Rows.{Entry, read_texts, one_text, entry_of, entries_in, numbered, repeated, same}
use Rattle.jose.specs.declared.Sizes.{Sizes}
use Rattle.jose.specs.Registered.{registered, zip, crit}
use Rattle.jose.specs.HeaderRules.{unprotected, recipient_rules, recipient_order}
use Rattle.jose.proofs.Alike.{Alike, Beside, rules_same}
use Rattle.headers.specs.Headers.{outermost, protected_entries}
use Rattle.jwe_write.specs.Write.{writer_rules}

-- Of a list that is made of another: tests that are false on what is made of each.
module _ {A B : Type 0} (h : A → B) where
  none_made : (f : B → Bool) → ((x : A) → f (h x) ≡ false) → (xs : List A) → any f (map h xs) ≡ false
  unfolding any
  none_made f e [] = refl
  none_made f e (x ∷ xs) = ap₂ ◌||◌ (e x) (none_made f e xs)

  pair_made : (f : B → B → Bool) → ((x y : A) → f (h x) (h y) ≡ false) → (xs : List A) → any_pair f (map h xs) ≡ false
  unfolding any_pair
  pair_made f e [] = refl
  pair_made f e (x ∷ xs) = ap₂ ◌||◌ (none_made (f (h x)) (e x) xs) (pair_made f e xs)

module _ (header : List ℕ) where
  -- A member of the header as an entry: its origin is 0.
  abbrev entry : Member → Entry
  entry = entry_of registered header 0

  -- 12 and 16
  no_repeat : (ms : List Member) → repeated true (one_text header) (map entry ms) ≡ false
  unfolding repeated
  no_repeat = pair_made entry (same true (one_text header)) (λ x y. refl)

  all_protected : (ms : List Member) → any unprotected (map entry ms) ≡ false
  all_protected = none_made entry unprotected (λ x. guarded (numbered zip (entry x) || numbered crit (entry x)))
    where
      guarded : (b : Bool) → (b && false) ≡ false
      guarded true = refl
      guarded false = refl

  -- An entry shows the same, whatever the message.
  shows_same : (message : List ℕ) (ms : List Member) →
      Beside (Alike (read_texts header message) (one_text header)) (map entry ms) (map entry ms)
  shows_same message [] = tt
  shows_same message (m ∷ ms) = (
    record { origin = refl; number = refl; kind = refl; name = refl; value = refl; elements = λ c o. refl },
    shows_same message ms,
  )

-- The reader's rules are the writer's.
pub header_rules : (known : List (List ℕ)) (header message : List ℕ) (sizes : Sizes) →
    let es = protected_entries header in
    first (recipient_order known (read_texts header message) es sizes) ≡ first (writer_rules known header es sizes)
unfolding protected_entries entries_in recipient_order first
header_rules known header message sizes =
    let ms = outermost header in
    let es = map (entry_of registered header 0) ms in
    ap first
    (rules_same known (read_texts header message) (one_text header) es es sizes (shows_same header message ms)
    (all_protected header ms) recipient_rules)
    ∙ rw (no_repeat header ms, all_protected header ms)
