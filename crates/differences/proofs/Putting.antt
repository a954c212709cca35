-- Lines put one behind the other, and that those which the code puts are the definition's.
use Rattle.std.proofs.Common.{◌≡◌, ap, ap₂, sym, ◌∙◌, Bool, not, List, ◌++◌, append_assoc, ℕ, ◌+◌, add-one}
use lib.Dec.{eqb}
use Rattle.grammar.specs.Places.{Place}
use Rattle.grammar.specs.Spellings.{equal}
use Rattle.headers.specs.Components.{Components, octets_at}
use Rattle.headers.specs.Answers.{components_of}
use Rattle.jwe.specs.Judge.{held}
use Rattle.jwe.specs.declared.Holding.{Holding}
use Rattle.parameters.specs.Lines.{Side, missing, Line, line, line_if}
use Rattle.differences.specs.Differences.{compared, whole, message_lines, key_lines, up_to}
use Rattle.differences.specs.Inner.Holding.{Judges}

-- What is put, and what is put behind it.
pub then_put : (before x y : List Line) {between after : List Line} → between ≡ before ++ x → after ≡ between ++ y → after ≡ before ++ (x ++ y)
then_put before x y e f = f ∙ ap (λ (l : List Line). l ++ y) e ∙ append_assoc before x y

-- A turn of a loop over numbers.
pub up_added : (f : ℕ → List Line) (n : ℕ) (before : List Line) {now next put : List Line} → now ≡ before ++ up_to f n → put ≡ f n →
    next ≡ now ++ put → next ≡ before ++ up_to f (n + 1)
unfolding up_to
up_added f n before {now} {next} {put} e p is =
    then_put before (up_to f n) put e is ∙ ap (λ (l : List Line). before ++ (up_to f n ++ l)) p
    ∙ ap (λ (k : ℕ). before ++ up_to f k) (sym (add-one n))

-- The line of two keys.
pub key_put : (left right : List ℕ) (n : ℕ) {q p : Place} {b : Bool} {x y : Side} → q ≡ ((held left).share n).key →
    p ≡ ((held right).share n).key → b ≡ not (equal (octets_at left q) (octets_at right p)) → x ≡ missing → y ≡ missing →
    line_if b (line 7 n x y) ≡ key_lines (compared left) (compared right) n
unfolding key_lines
key_put left right n {q} {p} {b} {x} {y} e f t m k =
    ap₂ (λ (u v : Side). line_if b (line 7 n u v)) m k
    ∙ ap (λ (c : Bool). line_if c (line 7 n missing missing))
    (t ∙ ap₂ (λ (u v : Place). not (equal (octets_at left u) (octets_at right v))) e f)

-- A line of the whole message by its test.
pub tested : (before : List Line) (k : ℕ) {b d : Bool} {after : List Line} → b ≡ d → after ≡ before ++ line_if b (whole k) →
    after ≡ before ++ line_if d (whole k)
tested before k e f = f ∙ ap (λ (c : Bool). before ++ line_if c (whole k)) e

-- The lines of the whole message, of what two messages hold.
abbrev pub lines_of : List ℕ → List ℕ → ℕ → ℕ → List ℕ → Components → ℕ → ℕ → List ℕ → Components → List Line
lines_of left right form many header q form' many' header' p =
    line_if (not (eqb form form')) (whole 0)
    ++ (line_if (not (eqb many many')) (whole 1)
    ++ (line_if (not (equal header header')) (whole 2)
    ++ (line_if (not (equal (octets_at left q.iv) (octets_at right p.iv))) (whole 3)
    ++ (line_if (not (equal (octets_at left q.aad) (octets_at right p.aad))) (whole 4)
    ++ (line_if (not (equal (octets_at left q.ciphertext) (octets_at right p.ciphertext))) (whole 5)
    ++ line_if (not (equal (octets_at left q.tag) (octets_at right p.tag))) (whole 6))))))

pub message_put : (left header : List ℕ) (l : Holding) {of own counts : List ℕ} → Judges left header l of own counts →
    (right other : List ℕ) (r : Holding) {by owns many : List ℕ} → Judges right other r by owns many →
    lines_of left right l.form l.recipients header (components_of l.components) r.form r.recipients other (components_of r.components)
    ≡ message_lines (compared left) (compared right)
unfolding message_lines
message_put left header l a right other r b =
    let same :
    lines_of left right l.form l.recipients header (components_of l.components) r.form r.recipients other (components_of r.components)
    ≡ lines_of left right (held left).form (held left).recipients (held left).header (held left).components
    (held right).form (held right).recipients (held right).header (held right).components =
    cc (a.form, a.recipients, a.decoded, a.components, b.form, b.recipients, b.decoded, b.components) in
    same
