-- A list by chunks of n elements, as `as_chunks` lends them, and a loop that writes what a function makes of each chunk, and then
-- what it makes of the rest: block by block, or group by group.
use mathlib.Core.Path.{◌≡◌, refl, ap, sym, subst, ◌∙◌}
use mathlib.Core.List.{List, [], ◌++◌, map, append-nil}
use Prim.Native.Nat.{ℕ, zero, suc, ◌+◌, ◌-◌, ◌*◌, ◌/◌, ◌≤◌, ◌<◌}
use native.Mathlib.Omega.{arith}
use borrow.Rule.Slice.PartMut.{put_mid}
use lib.ListN.{length, take, drop, get_or, take-append-drop, length-drop, length-append}
use lib.Seq.{drop-drop, length-take-le, take_all}
use Rattle.std.specs.Simd.{first_chunks}
use Rattle.std.proofs.Math.Nat.{mul-le-mul_right, div-mul-le_self}
use Rattle.prelude.specs.Buffer.{AllBelow, written}
use Rattle.prelude.proofs.Lists.{below_part, map_part}
use Rattle.prelude.proofs.Writing.{Writing, put_part, room_part, ended}
use Rattle.base64url.proofs.Covering.{copied, written_whole}

pub record Chunked (n : ℕ) (s : List ℕ) (blocks : List (List ℕ)) (rest : List ℕ) : Type 0 where
  pub front : blocks ≡ first_chunks n (length s / n) s
  pub count : length blocks ≡ length s / n
  pub back : rest ≡ drop (length s / n * n) s

-- a function of lists takes n elements by themselves
pub record TakesBy (n : ℕ) (f : List ℕ → List ℕ) : Type 0 where
  pub splits : (s t : List ℕ) → length s ≡ n → f (s ++ t) ≡ f s ++ f t

chunk_at : (n k : ℕ) (s : List ℕ) (i : ℕ) → i < k → get_or (first_chunks n k s) i [] ≡ take n (drop (i * n) s)
chunk_at n zero s i h = absurd (omega arith)
chunk_at n (suc k) s zero h =
    let none : 0 ≡ zero * n = omega arith in
    ap (λ (m : ℕ). take n (drop m s)) none
chunk_at n (suc k) s (suc i) h =
    let past : n + i * n ≡ suc i * n = omega arith in
    chunk_at n k (drop n s) i (omega arith)
    ∙ ap (take n) (drop-drop (i * n) n s ∙ ap (λ (m : ℕ). drop m s) past)

module _ {n : ℕ} {s : List ℕ} {blocks : List (List ℕ)} {rest : List ℕ} (chunks : Chunked n s blocks rest) where
  module _ (i : ℕ) (h : i < length blocks) where
    chunk_is : get_or blocks i [] ≡ take n (drop (i * n) s)
    chunk_is =
        ap (λ (l : List (List ℕ)). get_or l i []) chunks.front ∙ chunk_at n (length s / n) s i (omega (arith, chunks.count))

    chunk_fits : i * n + n ≤ length s
    chunk_fits =
        let sooner : i + 1 ≤ length s / n = omega (arith, chunks.count) in
        omega (arith, mul-le-mul_right n sooner, div-mul-le_self (length s) n)

    pub chunk_length : length (get_or blocks i []) ≡ n
    chunk_length =
        ap length chunk_is ∙ length-take-le n (drop (i * n) s) (omega (arith, length-drop (i * n) s, chunk_fits))

    -- where what a function gives is below a limit all along the list, it is so in a chunk
    pub chunk_below : (limit : ℕ) (g : ℕ → ℕ) → AllBelow limit (map g s) → AllBelow limit (map g (get_or blocks i []))
    chunk_below limit g below =
        subst (λ (l : List ℕ). AllBelow limit (map g l)) (sym chunk_is)
        (subst (AllBelow limit) (map_part g s (i * n) n) (below_part limit (map g s) (i * n) n below))

    -- a chunk and what comes after it
    pub chunk_part : {f : List ℕ → List ℕ} → TakesBy n f → f (drop (i * n) s) ≡ f (get_or blocks i []) ++ f (drop ((i + 1) * n) s)
    chunk_part {f} takes =
        let here : List ℕ = drop (i * n) s in
        let whole : length (take n here) ≡ n = length-take-le n here (omega (arith, length-drop (i * n) s, chunk_fits)) in
        let past : i * n + n ≡ (i + 1) * n = omega arith in
        ap f (sym (take-append-drop n here)) ∙ takes.splits (take n here) (drop n here) whole
        ∙ ap (λ (l : List ℕ). f (take n here) ++ f l) (drop-drop n (i * n) s ∙ ap (λ (m : ℕ). drop m s) past)
        ∙ ap (λ (l : List ℕ). f l ++ f (drop ((i + 1) * n) s)) (sym chunk_is)

  pub rest_below : (limit : ℕ) (g : ℕ → ℕ) → AllBelow limit (map g s) → AllBelow limit (map g rest)
  rest_below limit g below =
      let m : ℕ = length s / n * n in
      let all : take (length s) (drop m s) ≡ drop m s = take_all (length s) (drop m s) (omega (arith, length-drop m s)) in
      subst (λ (l : List ℕ). AllBelow limit (map g l)) (all ∙ sym chunks.back)
      (subst (AllBelow limit) (map_part g s m (length s)) (below_part limit (map g s) m (length s) below))

  -- after the last chunk the rest is left
  rest_part : (f : List ℕ → List ℕ) (i : ℕ) → i ≡ length blocks → f (drop (i * n) s) ≡ f rest ++ []
  rest_part f i e =
      ap (λ (k : ℕ). f (drop (k * n) s)) (e ∙ chunks.count) ∙ ap f (sym chunks.back) ∙ sym (append-nil (f rest))

  -- The loop: what it has written before turn i, and what turn i and the end add
  module _ {f : List ℕ → List ℕ} (takes : TakesBy n f) {at : ℕ} {before now : List ℕ} {i j : ℕ}
      (w : Writing at (f s) before (f (drop (i * n) s)) j now) where
    pub block_room : i < length blocks → j + length (f (get_or blocks i [])) ≤ length now
    block_room h = room_part (f (get_or blocks i [])) (f (drop ((i + 1) * n) s)) (chunk_part i h takes) w

    pub block_done : {next : List ℕ} {k : ℕ} → i < length blocks → k ≡ j + length (f (get_or blocks i []))
        → next ≡ written j (f (get_or blocks i [])) now → Writing at (f s) before (f (drop ((i + 1) * n) s)) k next
    block_done h e wrote = put_part (f (get_or blocks i [])) (f (drop ((i + 1) * n) s)) (chunk_part i h takes) w e wrote

    pub rest_room : i ≡ length blocks → j + length (f rest) ≤ length now
    rest_room e = room_part (f rest) [] (rest_part f i e) w

    pub rest_done : {next : List ℕ} {k : ℕ} → i ≡ length blocks → k ≡ j + length (f rest) → next ≡ written j (f rest) now
        → (k ≡ at + length (f s)) × (next ≡ written at (f s) before)
    rest_done e size wrote = ended (put_part (f rest) [] (rest_part f i e) w size wrote)

    -- where each turn is lent its part of the output
    pub part_size : {m : ℕ} → i < length blocks → m ≡ length (f (get_or blocks i []))
        → length (take m (drop j now)) ≡ length (f (get_or blocks i []))
    part_size {m} h size =
        length-take-le m (drop j now) (omega (arith, length-drop j now, block_room h)) ∙ size

    pub part_filled : {m k : ℕ} {ys : List ℕ} → i < length blocks → m ≡ length (f (get_or blocks i [])) → k ≡ j + m
        → ys ≡ f (get_or blocks i []) → Writing at (f s) before (f (drop ((i + 1) * n) s)) k (put_mid j m now ys)
    part_filled {m} {k} {ys} h size e given =
        block_done h (omega (arith, size)) (copied j m now ys (f (get_or blocks i [])) given size)

  -- The end where the output is as long as what is written
  module _ {f : List ℕ → List ℕ} (takes : TakesBy n f) {before now : List ℕ} {i j : ℕ}
      (w : Writing 0 (f s) before (f (drop (i * n) s)) j now) where
    module _ (all : length before ≡ length (f s)) (last : i ≡ length blocks) {a : ℕ} (here : a ≡ j) where
      left : length now - a ≡ length (f rest)
      left = omega (arith, w.end, w.same, all, ap length (rest_part f i last), length-append (f rest) [])

      pub rest_size : length (take (length now - a) (drop a now)) ≡ length (f rest)
      rest_size = length-take-le (length now - a) (drop a now) (omega (arith, length-drop a now)) ∙ left

      pub rest_filled : {ys : List ℕ} → ys ≡ f rest → put_mid a (length now - a) now ys ≡ f s
      rest_filled {ys} given =
          (rest_done takes w last refl (copied a (length now - a) now ys (f rest) given left
          ∙ ap (λ (k : ℕ). written k (f rest) now) here)).1
          ∙ written_whole (f s) before (sym all)
