-- Names and their list: what stands behind the lengths is cut where the names were joined, and the names of a filled
-- list joined again give it back.
use mathlib.Core.Path.{◌≡◌, refl, ap, ap₂, sym, ◌∙◌}
use mathlib.Core.List.{List, [], ◌∷◌, ◌++◌, map, flatten}
use mathlib.Core.Bool.{Bool, true, false, ◌&&◌}
use Prim.Native.Nat.{ℕ, suc, ◌≤◌}
use native.Mathlib.Omega.{arith}
use lib.ListN.{length, take, drop, length-append, length-drop, length-map, take-append-drop}
use lib.Seq.{take_at, drop_at, take-append_seam, drop-append_seam, length-take-le}
use lib.Dec.{leb}
use borrow.Author.Tests.{leb-true, le-leb, eqb-true, eq-eqb}
use Rattle.names.specs.Names.{list_of, cut, names, total, filled, limited, sound, Limited}

pub and_true : (a b : Bool) → a && b ≡ true → (a ≡ true) × (b ≡ true)
and_true true b e = (refl, e)
and_true false b e = (e, absurd (let z : ◌≡◌ {A = ℕ} 0 1 = cc in omega arith))

pub true_and : {a b : Bool} → a ≡ true → b ≡ true → a && b ≡ true
true_and e f = ap₂ ◌&&◌ e f

-- From names to their list and back

cut_joined : (ns : List (List ℕ)) → cut (map length ns) (flatten ns) ≡ ns
unfolding cut flatten
cut_joined [] = refl
cut_joined (w ∷ ws) =
    ap₂ (λ x y. x ∷ y) (take-append_seam w (flatten ws))
    (ap (cut (map length ws)) (drop-append_seam w (flatten ws)) ∙ cut_joined ws)

-- The contents of a list, and what stands behind them.
module _ (ns : List (List ℕ)) where
  lengths_of : take (length ns) (map length ns ++ flatten ns) ≡ map length ns
  lengths_of = take_at (map length ns) (flatten ns) (length ns) (length-map ns length)

  behind_of : drop (length ns) (map length ns ++ flatten ns) ≡ flatten ns
  behind_of = drop_at (map length ns) (flatten ns) (length ns) (length-map ns length)

  pub names_of_lem : names (list_of ns) ≡ ns
  unfolding names list_of
  names_of_lem = ap₂ cut lengths_of behind_of ∙ cut_joined ns

-- From a list to its names and back

pub cut_count : (ks s : List ℕ) → length (cut ks s) ≡ length ks
unfolding cut
cut_count [] s = refl
cut_count (k ∷ ks) s = ap suc (cut_count ks (drop k s))

cut_lengths : (ks s : List ℕ) → total ks ≡ length s → map length (cut ks s) ≡ ks
unfolding cut total
cut_lengths [] s e = refl
cut_lengths (k ∷ ks) s e =
    ap₂ (λ x y. x ∷ y) (length-take-le k s (omega arith)) (cut_lengths ks (drop k s) (omega (arith, length-drop k s)))

join_cut : (ks s : List ℕ) → total ks ≡ length s → flatten (cut ks s) ≡ s
unfolding cut total flatten
join_cut [] [] e = refl
join_cut [] (x ∷ s) e = absurd (omega arith)
join_cut (k ∷ ks) s e =
    ap (λ (r : List ℕ). take k s ++ r) (join_cut ks (drop k s) (omega (arith, length-drop k s))) ∙ take-append-drop k s

-- What is known of a filled list.
module _ (n : ℕ) (rest : List ℕ) (f : filled (n ∷ rest) ≡ true) where
  pub room : n ≤ length rest
  unfolding filled
  room = leb-true n (length rest) (and_true (leb n (length rest)) _ f).0

  pub exact : total (take n rest) ≡ length (drop n rest)
  unfolding filled
  exact = eqb-true (total (take n rest)) (length (drop n rest)) (and_true (leb n (length rest)) _ f).1

  pub count : length (names (n ∷ rest)) ≡ n
  unfolding names
  count = cut_count (take n rest) (drop n rest) ∙ length-take-le n rest room

  pub lengths : map length (names (n ∷ rest)) ≡ take n rest
  unfolding names
  lengths = cut_lengths (take n rest) (drop n rest) exact

  joined : flatten (names (n ∷ rest)) ≡ drop n rest
  unfolding names
  joined = join_cut (take n rest) (drop n rest) exact

  listed : list_of (names (n ∷ rest)) ≡ n ∷ rest
  unfolding list_of
  listed = ap₂ (λ x y. x ∷ y) count (ap₂ ◌++◌ lengths joined ∙ take-append-drop n rest)

pub list_of_names : (list : List ℕ) → filled list ≡ true → list_of (names list) ≡ list
unfolding filled
list_of_names [] f = absurd (let z : ◌≡◌ {A = ℕ} 0 1 = cc in omega arith)
list_of_names (n ∷ rest) f = listed n rest f

-- Sound lists

pub sound_filled : (list : List ℕ) → sound list ≡ true → filled list ≡ true
unfolding sound
sound_filled [] s = absurd (let z : ◌≡◌ {A = ℕ} 0 1 = cc in omega arith)
sound_filled (n ∷ rest) s =
    (and_true (limited (take n rest)) (filled (n ∷ rest)) (and_true (leb n 16) _ s).1).1

names_limited : (ns : List (List ℕ)) → limited (map length ns) ≡ true → Limited ns
unfolding limited
names_limited [] e = tt
names_limited (w ∷ ws) e =
    let low = and_true (leb 1 (length w)) _ e in
    let high = and_true (leb (length w) 64) _ low.1 in
    ((leb-true 1 (length w) low.0, leb-true (length w) 64 high.0), names_limited ws high.1)

lengths_limited : (ns : List (List ℕ)) → Limited ns → limited (map length ns) ≡ true
unfolding limited
lengths_limited [] h = refl
lengths_limited (w ∷ ws) h =
    true_and (le-leb 1 (length w) h.0.0)
    (true_and (le-leb (length w) 64 h.0.1) (lengths_limited ws h.1))

-- The names of a sound list are few and short ..
pub sound_few : (list : List ℕ) → sound list ≡ true → length (names list) ≤ 16
unfolding sound
sound_few [] s = absurd (let z : ◌≡◌ {A = ℕ} 0 1 = cc in omega arith)
sound_few (n ∷ rest) s =
    let few = leb-true n 16 (and_true (leb n 16) _ s).0 in
    omega (arith, count n rest (sound_filled (n ∷ rest) s))

pub sound_limited : (list : List ℕ) → sound list ≡ true → Limited (names list)
unfolding sound
sound_limited [] s = absurd (let z : ◌≡◌ {A = ℕ} 0 1 = cc in omega arith)
sound_limited (n ∷ rest) s =
    names_limited (names (n ∷ rest))
    (ap limited (lengths n rest (sound_filled (n ∷ rest) s))
    ∙ (and_true (limited (take n rest)) (filled (n ∷ rest)) (and_true (leb n 16) _ s).1).0)

-- .. and few short names have a sound list.

total_joined : (ns : List (List ℕ)) → total (map length ns) ≡ length (flatten ns)
unfolding total flatten
total_joined [] = refl
total_joined (w ∷ ws) = omega (arith, total_joined ws, length-append w (flatten ws))

pub filled_list : (ns : List (List ℕ)) → filled (list_of ns) ≡ true
unfolding filled list_of
filled_list ns =
    true_and (le-leb (length ns) _ (omega (arith, length-append (map length ns) (flatten ns), length-map ns length)))
    (eq-eqb _ _ (ap total (lengths_of ns) ∙ total_joined ns ∙ ap length (sym (behind_of ns))))

pub sound_list : (ns : List (List ℕ)) → length ns ≤ 16 → Limited ns → sound (list_of ns) ≡ true
unfolding sound list_of
sound_list ns few short =
    true_and (le-leb (length ns) 16 few)
    (true_and (ap limited (lengths_of ns) ∙ lengths_limited ns short) (filled_list ns))
