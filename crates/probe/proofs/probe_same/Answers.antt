-- Both texts are judged, and then compared where their objects stand.
use mathlib.Core.Path.{◌≡◌, refl, ap, ap₂, sym, ◌∙◌}
use mathlib.Core.Bool.{Bool, cond}
use mathlib.Core.List.{List}
use Prim.Native.Nat.{ℕ, ◌-◌}
use Rattle.grammar.specs.Places.{Element}
use Rattle.grammar.specs.Reader.{skip_space, read_text}
use Rattle.json_read.specs.Inner.Ends.{found_of}
use Rattle.json_read.specs.declared.Found.{Found}
use Rattle.std.specs.Prelude.{Option, Some, None}
use Rattle.same.specs.Same.{same_at}
use Rattle.probe.specs.Inner.Texts.{object_of, texts_same}
use Rattle.probe.proofs.Judged.{judged}
use borrow.Author.Rules.{rules}
use Rattle.probe.proofs.probe_same.Goals as goal

none_first : (s t : List ℕ) (f : Option Found) → 2 ≡ texts_same s t None f
none_first s t (Some v) = refl
none_first s t None = refl

placed : (s : List ℕ) (start size e k : ℕ) → start ≡ skip_space s 0 → size ≡ e - start →
    ◌≡◌ {A = Element} (record { start = start; size = size; kind = k }) (object_of s e k)
placed s start size e k h g =
    ap₂ (λ (x y : ℕ). record { start = x; size = y; kind = k }) h (g ∙ ap (λ x. e - x) h)

pub returns-in_default : goal.returns-in_default
returns-in_default c =
    none_first c.args.s.now c.args.t.now (found_of (read_text 12 c.args.t.now))
    ∙ ap (λ f. texts_same c.args.s.now c.args.t.now f (found_of (read_text 12 c.args.t.now)))
    c.in_default.ensures

pub returns-in_default-judge : goal.returns-in_default-judge
returns-in_default-judge c =
    ap₂ (texts_same c.args.s.now c.args.t.now) c.in-Some.ensures
    c.in_default-judge.ensures

pub same-requires : goal.same-requires
same-requires c =
    record {
      reads = record {
        end = c.in-Some.one.end.at;
        is =
            judged 12 c.args.s.now c.in-Some.one.end c.in-Some.one.kind c.skip_space-first.result.at
            c.in-Some.ensures c.skip_space-first.ensures;
      };
      reads_2 = record {
        end = c.in-Some-judge.other.end.at;
        is =
            judged 12 c.args.t.now c.in-Some-judge.other.end c.in-Some-judge.other.kind c.skip_space-begin.result.at
            c.in-Some-judge.ensures c.skip_space-begin.ensures;
      };
      work_room_in_bounds = search rules;
    }

pub returns-then-same : goal.returns-then-same
returns-then-same c =
    ap (λ (b : Bool). cond b 1 0) (sym c.if-same.true ∙ c.same.ensures
    ∙ ap₂ (same_at 12 c.args.s.now c.args.t.now)
    (placed c.args.s.now _ _ _ _ c.skip_space-first.ensures c.minus.ensures)
    (placed c.args.t.now _ _ _ _ c.skip_space-begin.ensures c.minus-2.ensures))
    ∙ ap₂ (texts_same c.args.s.now c.args.t.now) c.in-Some.ensures
    c.in-Some-judge.ensures

pub returns-else-same : goal.returns-else-same
returns-else-same c =
    ap (λ (b : Bool). cond b 1 0) (sym c.if-same.false ∙ c.same.ensures
    ∙ ap₂ (same_at 12 c.args.s.now c.args.t.now)
    (placed c.args.s.now _ _ _ _ c.skip_space-first.ensures c.minus.ensures)
    (placed c.args.t.now _ _ _ _ c.skip_space-begin.ensures c.minus-2.ensures))
    ∙ ap₂ (texts_same c.args.s.now c.args.t.now) c.in-Some.ensures
    c.in-Some-judge.ensures
