-- What opening finds, by each way through the code; and what a step finds, by the answer of the reader of members.
use mathlib.Core.Path.{◌≡◌, refl, ap, sym, ◌∙◌}
use mathlib.Core.Bool.{Bool, true, false, cond}
use mathlib.Core.List.{List, ◌∷◌}
use mathlib.Core.Option.{Option, none, some}
use Prim.Native.Nat.{ℕ, ◌<◌, ◌≤◌}
use native.Mathlib.Omega.{arith}
use lib.ListN.{length}
use lib.Dec.{eqb}
use borrow.Author.Tests.{lt-ltb, le-ltb, eq-eqb, ne_eqb}
use Rattle.grammar.specs.Grammar.{curly}
use Rattle.grammar.specs.Reader.{skip_space, read_text, Entry, entry_at, value_at}
use Rattle.json_read.specs.Inner.Ends.{found_of}
use Rattle.json_read.specs.Members.{first_in, row_here, member_of}
use Rattle.json_read.specs.declared.Found.{Found}
use Rattle.json_read.specs.declared.Position.{Position}
use Rattle.json_read.specs.declared.member.Row.{Row}
use Rattle.json_read.specs.declared.member.Member.{Member}
use Rattle.std.specs.Prelude as std
use Rattle.std.specs.Prelude.{Some, None}
use Rattle.prelude.specs.Refusals.{◌if◌, first, stage_of}
use Rattle.prelude.proofs.Refusals.{first_fails, first_passes}
use Rattle.prelude.specs.Limits.{longest}
use Rattle.json_read.proofs.NumberParts.{same_found}
use Rattle.headers.specs.Headers.{unread, protected_entries, object_order}
use Rattle.prelude.specs.Refusals.{Passed, Refused}
use Rattle.headers.proofs.Stages.{passed_is, refused_is}
use Rattle.headers.proofs.Texts.{no_value, by_reading}
use Rattle.walk.specs.Walk.{Opening}
use Rattle.walk.specs.declared.Stepped.{Stepped}
use Rattle.std.specs.Result.{IsErrAnd}
use Rattle.std.proofs.lemmas.Result.{err_from_is_err_and}
use Rattle.prelude.specs.declared.refusal.Refusal.{Refusal}
use Rattle.prelude.specs.Refusals.{number_of}
use Rattle.walk.specs.Walk.{as_opening, walk_order, first_offset, opening_of, stepped_of, step_at}

-- Steps

step_end : (s : List ℕ) (o : Option Entry) → None ≡ member_of s o →
    ◌≡◌ {A = Stepped} (record { handed = std.None; at = length s }) (stepped_of s o)
step_end s none e = refl
step_end s (some x) e = let z : ◌≡◌ {A = ℕ} 0 1 = cc in absurd (omega arith)

step_here : (s : List ℕ) (o : Option Entry) (row : Row) (next : Position) → row_here row next ≡ member_of s o →
    ◌≡◌ {A = Stepped} (record { handed = std.Some row; at = next.at }) (stepped_of s o)
step_here s none row next e = let z : ◌≡◌ {A = ℕ} 0 1 = cc in absurd (omega arith)
step_here s (some x) row next e =
    ap (λ (m : Member). record { handed = std.Some m.row; at = m.next.at }) (same_found e)

module _ (s : List ℕ) (at : ℕ) where
  pub steps_end : None ≡ member_of s (entry_at (value_at 12 s) curly s at) →
      ◌≡◌ {A = Stepped} (record { handed = std.None; at = length s }) (step_at s at)
  unfolding step_at
  steps_end e = step_end s (entry_at (value_at 12 s) curly s at) e

  pub steps_here : (row : Row) (next : Position) →
      row_here row next ≡ member_of s (entry_at (value_at 12 s) curly s at) →
      ◌≡◌ {A = Stepped} (record { handed = std.Some row; at = next.at }) (step_at s at)
  unfolding step_at
  steps_here row next e = step_here s (entry_at (value_at 12 s) curly s at) row next e

-- Opening

module _ (s : List ℕ) where
  opening : (n at : ℕ) → first (walk_order s) ≡ n → first_offset s n ≡ at →
      ◌≡◌ {A = Opening} (record { refusal = n; at = at }) (opening_of s)
  opening n at e f =
      ap (λ (a : ℕ). record { refusal = n; at = a }) (sym f)
      ∙ ap (λ (k : ℕ). record { refusal = k; at = first_offset s k }) (sym e)

  -- refused: the walk is at its end
  pub offset_refused : (n : ℕ) → 0 < n → first_offset s n ≡ length s
  unfolding first_offset
  offset_refused n h =
      ap (λ (b : Bool). cond b (cond (eqb (length (protected_entries s)) 0) (length s) (first_in s (skip_space s 0))) (length s))
      (ne_eqb n 0 (λ e. omega arith))

  pub offset_empty : length (protected_entries s) ≡ 0 → first_offset s 0 ≡ length s
  unfolding first_offset
  offset_empty e =
      ap (λ (b : Bool). cond b (length s) (first_in s (skip_space s 0))) (eq-eqb (length (protected_entries s)) 0 e)

  pub offset_first : (length (protected_entries s) ≡ 0 → ⊥) → first_offset s 0 ≡ first_in s (skip_space s 0)
  unfolding first_offset
  offset_first f =
      ap (λ (b : Bool). cond b (length s) (first_in s (skip_space s 0))) (ne_eqb (length (protected_entries s)) 0 f)

  pub opens_2 : longest < length s → ◌≡◌ {A = Opening} (record { refusal = 2; at = length s }) (opening_of s)
  unfolding walk_order
  opens_2 h = opening 2 (length s) (first_fails _ _ (lt-ltb longest (length s) h)) (offset_refused 2 (omega arith))

  module _ (short : length s ≤ longest) where
    passes_2 : first (walk_order s) ≡ first (7 if unread s ∷ object_order s (protected_entries s))
    unfolding walk_order
    passes_2 = first_passes _ _ (le-ltb longest (length s) short)

    module _ (answer : std.Option Found) (a : answer ≡ found_of (read_text 12 s)) where
      unread_is : unread s ≡ no_value answer
      unfolding unread
      unread_is = sym (ap no_value a ∙ by_reading (read_text 12 s))

      pub opens_7 : no_value answer ≡ true → ◌≡◌ {A = Opening} (record { refusal = 7; at = length s }) (opening_of s)
      opens_7 e =
          opening 7 (length s) (passes_2 ∙ first_fails _ _ (unread_is ∙ e)) (offset_refused 7 (omega arith))

      module _ (e : no_value answer ≡ false) where
        passes_7 : first (walk_order s) ≡ first (object_order s (protected_entries s))
        passes_7 = passes_2 ∙ first_passes _ _ (unread_is ∙ e)

        pub opens_refused : (n : ℕ) →
            Refused n ≡ stage_of (first (object_order s (protected_entries s))) (length (protected_entries s)) →
            ◌≡◌ {A = Opening} (record { refusal = n; at = length s }) (opening_of s)
        opens_refused n r =
            let p = refused_is n _ _ r in
            opening n (length s) (passes_7 ∙ p.0) (offset_refused n p.1)

        module _ (n : ℕ)
            (r : Passed n ≡ stage_of (first (object_order s (protected_entries s))) (length (protected_entries s))) where
          pub opens_empty : n ≡ 0 → ◌≡◌ {A = Opening} (record { refusal = 0; at = length s }) (opening_of s)
          opens_empty z =
              let p = passed_is n _ _ r in
              opening 0 (length s) (passes_7 ∙ p.0) (offset_empty (sym p.1 ∙ z))

          pub opens_first : (n ≡ 0 → ⊥) → (start at : ℕ) → start ≡ skip_space s 0 → at ≡ first_in s start →
              ◌≡◌ {A = Opening} (record { refusal = 0; at = at }) (opening_of s)
          opens_first f start at g h =
              let p = passed_is n _ _ r in
              opening 0 at (passes_7 ∙ p.0) (offset_first (λ z. f (p.1 ∙ z)) ∙ sym (h ∙ ap (first_in s) g))

-- What the exit of a `?` hands up: the walk is at its end.
pub handed_opening : (s : List ℕ) (up : std.Result ℕ Refusal) (e : Refusal) → IsErrAnd up (λ y. y ≡ e) →
    as_opening s up ≡ record { refusal = number_of e; at = length s }
handed_opening s up e h =
    let p = err_from_is_err_and up h in
    ap (as_opening s) (p.1 ∙ ap std.Err p.2)
