-- Lines laid flat, one after the other.
use Rattle.std.proofs.Common.{◌≡◌, refl, ap, sym, ◌∙◌, List, [], ◌∷◌, ◌++◌, append-nil, ℕ, ◌+◌, ◌*◌, ◌≤◌, ◌<◌, map, length, take, get_or, length-append, take-suc, add-one, arith}
use Rattle.std.proofs.lemmas.List.{map-append, length-map}
use lib.Seq.{length-take-le}
use Rattle.prelude.specs.Buffer.{written}
use Rattle.prelude.proofs.Writing.{begin, put_part, done}
use Rattle.parameters.specs.Lines.{Line, line_numbers, line_width, laid}

pub laid_append : (xs ys : List Line) → laid (xs ++ ys) ≡ laid xs ++ laid ys
unfolding laid
laid_append [] ys = refl
laid_append (l ∷ xs) ys = ap (λ (r : List ℕ). line_numbers l ++ r) (laid_append xs ys)

pub laid_length : (xs : List Line) → length (laid xs) ≡ length xs * line_width
unfolding laid
laid_length [] = refl
laid_length (l ∷ xs) = omega (arith, laid_length xs)

-- What is written behind what was written.
written_more : (xs ys b : List ℕ) → length xs + length ys ≤ length b → written (length xs) ys (written 0 xs b) ≡ written 0 (xs ++ ys) b
written_more xs ys b h =
    let all = begin 0 (xs ++ ys) b (omega (arith, length-append xs ys)) in
    let first = put_part xs ys refl all {next = written 0 xs b} {k = length xs} (omega arith) refl in
    done (put_part ys [] (sym (append-nil ys)) first {next = written (length xs) ys (written 0 xs b)} {k = length xs + length ys} refl refl)

-- One line more.
pub laid_next : {A : Type 0} (f : A → Line) (xs : List A) (i : ℕ) (d : A) (b : List ℕ) → i < length xs → (i + 1) * line_width ≤ length b →
    {now next : List ℕ} → now ≡ written 0 (laid (map f (take i xs))) b → next ≡ written (i * line_width) (line_numbers (f (get_or xs i d))) now →
    next ≡ written 0 (laid (map f (take (i + 1) xs))) b
unfolding laid
laid_next {A = A} f xs i d b h fits {now = now} {next = next} e w =
    let here = get_or xs i d in
    let front = laid (map f (take i xs)) in
    let more : laid (map f (take (i + 1) xs)) ≡ front ++ line_numbers (f here) =
    ap (λ (k : ℕ). laid (map f (take k xs))) (add-one i) ∙ ap (λ (l : List A). laid (map f l)) (take-suc xs i d h)
    ∙ ap laid (map-append f (take i xs) (here ∷ [])) ∙ laid_append (map f (take i xs)) (f here ∷ []) in
    let long : length front ≡ i * line_width = omega (arith, laid_length (map f (take i xs)), length-map (take i xs) f, length-take-le i xs (omega arith)) in
    w ∙ ap (written (i * line_width) (line_numbers (f here))) e
    ∙ ap (λ (k : ℕ). written k (line_numbers (f here)) (written 0 front b)) (sym long)
    ∙ written_more front (line_numbers (f here)) b (omega (arith, long)) ∙ ap (λ (l : List ℕ). written 0 l b) (sym more)
