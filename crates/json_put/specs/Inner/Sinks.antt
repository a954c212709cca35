-- The two sinks: a count, which stops at some number above the longest message, and a buffer.
use Rattle.std.specs.Prelude.{◌≡◌, List, [], ◌++◌, ℕ, ◌+◌, ◌≤◌, min, length, refl}
use Rattle.std.proofs.Common.{ap, sym, ◌∙◌, add-zero, append-nil, take, drop, take-append-drop, length-append, arith}
use Rattle.prelude.specs.Buffer.{written}
use Rattle.prelude.specs.Limits.{longest}
use Rattle.prelude.proofs.Writing.{Writing, begin, put_part, done, written_length}
use Rattle.json_put.specs.Inner.Laws.{Laws}
use Rattle.json_put.specs.declared.sink.Count.{Count}
use Rattle.json_put.specs.declared.sink.Buffer.{Buffer}

-- A count

abbrev pub Any : Count → List ℕ → Type 0
Any s xs = Unit {0}

abbrev pub Counts : Count → List ℕ → Count → Type 0
Counts s xs t = min t.n (longest + 1) ≡ min (s.n + length xs) (longest + 1)

pub counts_laws : Laws Any Counts
counts_laws = record {
  none = λ s. omega arith;
  front = λ s xs ys h. tt;
  back = λ s m xs ys h p. tt;
  both = λ s m t xs ys h p q. omega (arith, p, q, length-append xs ys);
}

-- A buffer

abbrev pub Holds : Buffer → List ℕ → Type 0
Holds s xs = s.at + length xs ≤ length s.out.now

pub record Fills (s : Buffer) (xs : List ℕ) (t : Buffer) : Type 0 where
  pub at : t.at ≡ s.at + length xs
  pub out : t.out.now ≡ written s.at xs s.out.now
  pub same : t.out.ghost_name ≡ s.out.ghost_name

written_none : (at : ℕ) (before : List ℕ) → written at [] before ≡ before
unfolding written
written_none at before = ap (λ (n : ℕ). take at before ++ drop n before) (add-zero at) ∙ take-append-drop at before

written_both : (at : ℕ) (xs ys before : List ℕ) → at + length (xs ++ ys) ≤ length before →
    written (at + length xs) ys (written at xs before) ≡ written at (xs ++ ys) before
written_both at xs ys before h =
    let first : Writing at (xs ++ ys) before ys (at + length xs) (written at xs before) =
    put_part xs ys refl (begin at (xs ++ ys) before h) refl refl in
    done (put_part ys [] (sym (append-nil ys)) first refl refl)

pub fills_laws : Laws Holds Fills
fills_laws = record {
  none = λ s. record { at = sym (add-zero s.at); out = sym (written_none s.at s.out.now); same = refl };
  front = λ s xs ys h. omega (arith, h, length-append xs ys);
  back = λ s m xs ys h p.
      let front : s.at + length xs ≤ length s.out.now = omega (arith, h, length-append xs ys) in
      omega (arith, h, p.at, length-append xs ys, ap length p.out, written_length s.at xs s.out.now front);
  both = λ s m t xs ys h p q. record {
    at = omega (arith, p.at, q.at, length-append xs ys);
    out =
        q.out ∙ ap (λ (n : ℕ). written n ys m.out.now) p.at ∙ ap (written (s.at + length xs) ys) p.out
        ∙ written_both s.at xs ys s.out.now h;
    same = q.same ∙ p.same;
  };
}
