-- What `jwe_read` answers: too little lent, or what the reader answers, as numbers. `number-first` serves all that ask only
-- whether a message is accepted.
use mathlib.Core.Path.{◌≡◌, refl, ap, sym, subst, ◌∙◌}
use mathlib.Core.Bool.{Bool, cond}
use mathlib.Core.List.{List}
use Prim.Native.Nat.{ℕ, ◌≤◌, ◌<◌}
use lib.ListN.{length, get_or}
use lib.Dec.{eqb}
use borrow.Author.Tests.{lt-ltb, le-ltb, eq-eqb, ne_eqb, eqb-true}
use Rattle.prelude.specs.Buffer.{AllBelow, written}
use Rattle.grammar.proofs.Endings.{either}
use Rattle.jwe.specs.Judge.{Call, refusal, accepted, refused, result_of, header_after, list_after}
use Rattle.jwe.specs.Answers.{numbers}
use Rattle.jwe.specs.Answers.{Result}
use Rattle.jwe.proofs.Small.{limit, result_small}
use Rattle.prelude.specs.Result.{result_room}
use Rattle.host.specs.Read.{read_refusal, read_header, read_list, read_result}

-- The result begins with the refusal's number.
pub number_first : (c : Call) (r : Result) → numbers r ≡ result_of c → r.number ≡ refusal c
unfolding result_of accepted refused
number_first c r e =
    let n = refusal c in
    ap (λ (l : List ℕ). get_or l 0 0) e
    ∙ either (λ (l : List ℕ). get_or l 0 0 ≡ n) (eqb n 0) (λ t. sym (eqb-true n 0 t)) (λ _. refl)

module _ (c : Call) (header list buffer : List ℕ) where
  abbrev first : ℕ
  first = refusal c

  abbrev told : List ℕ
  told = result_of c

  abbrev after : List ℕ
  after = header_after c header

  abbrev listed : List ℕ
  listed = list_after c list

  -- the four promises, of an answer and of what the lent memory holds then
  abbrev pub Reads : ℕ → List ℕ → List ℕ → List ℕ → Type 0
  Reads n h l b =
      (n ≡ read_refusal c (length buffer))
      × ((h ≡ read_header c (length buffer) header)
      × ((l ≡ read_list c (length buffer) list)
      × (b ≡ read_result c buffer)))

  pub too_little : length buffer < result_room → Reads 1 header list buffer
  unfolding read_refusal read_header read_list read_result
  too_little h =
      let t = sym (lt-ltb (length buffer) result_room h) in (
        ap (λ (b : Bool). cond b 1 first) t,
        (
          ap (λ (b : Bool). cond b header after) t,
          (
            ap (λ (b : Bool). cond b list listed) t,
            ap (λ (b : Bool). cond (eqb (cond b 1 first) 0) (written 0 told buffer) buffer) t,
          ),
        ),
      )

  module _ (r : Result) (e : numbers r ≡ told) where
    abbrev numbered : r.number ≡ first
    numbered = number_first c r e

    pub numbers_small : AllBelow limit (numbers r)
    numbers_small = subst (AllBelow limit) (sym e) (result_small c)

    module _ (h : result_room ≤ length buffer) (header' list' : List ℕ) (f : header' ≡ after) (g : list' ≡ listed) where
      -- enough is lent: what the reader answers and leaves
      module _ (buffer' : List ℕ) (k : buffer' ≡ cond (eqb first 0) (written 0 told buffer) buffer) where
        handed : Reads r.number header' list' buffer'
        unfolding read_refusal read_header read_list read_result
        handed =
            let t = sym (le-ltb (length buffer) result_room h) in (
              numbered ∙ ap (λ (b : Bool). cond b 1 first) t,
              (
                f ∙ ap (λ (b : Bool). cond b header after) t,
                (
                  g ∙ ap (λ (b : Bool). cond b list listed) t,
                  k ∙ ap (λ (b : Bool). cond (eqb (cond b 1 first) 0) (written 0 told buffer) buffer) t,
                ),
              ),
            )

      pub reads_accepted : r.number ≡ 0 → (buffer' : List ℕ) → buffer' ≡ written 0 (numbers r) buffer →
          Reads 0 header' list' buffer'
      reads_accepted z buffer' w =
          let t = sym (eq-eqb first 0 (sym numbered ∙ z)) in
          let k =
          w ∙ ap (λ (l : List ℕ). written 0 l buffer) e
          ∙ ap (λ (b : Bool). cond b (written 0 told buffer) buffer) t in
          let all = handed buffer' k in (sym z ∙ all.0, all.1)

      pub reads_refused : (r.number ≡ 0 → ⊥) → Reads r.number header' list' buffer
      reads_refused z =
          let t = sym (ne_eqb first 0 (λ q. z (numbered ∙ q))) in
          handed buffer (ap (λ (b : Bool). cond b (written 0 told buffer) buffer) t)
