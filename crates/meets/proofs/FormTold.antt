-- The test for the JSON form finds an opening curly bracket behind space exactly where the message begins so.
use mathlib.Core.Path.{◌≡◌, refl, ap, sym, subst, ◌∙◌}
use mathlib.Core.Bool.{true}
use mathlib.Core.List.{List, [], ◌∷◌, ◌++◌}
use Prim.Native.Nat.{ℕ, ◌+◌}
use native.Mathlib.Omega.{arith}
use lib.ListN.{length}
use borrow.Author.Tests.{eq-eqb, eqb-true}
use Rattle.grammar.specs.Grammar.{is_space, octets}
use Rattle.grammar.specs.Reader.{octet_at, skip_space, opens_object}
use Rattle.grammar.proofs.Parse.{At, at, scan, run}
use Rattle.grammar.proofs.Scan.{scan_octets, scanned}
use Rattle.grammar.proofs.Positions.{Rest, octet_nil, octet_cons, skip_scan, rest_scan}
use Rattle.meets.specs.Meets.{OpensCurly}
use Rattle.meets.proofs.Deciding.{TrueWhere}

pub curly_opens : (s : List ℕ) → OpensCurly s → opens_object s ≡ true
unfolding opens_object scan
curly_opens s o =
    let w = octets o.space in
    let k = 0 + length w in
    let here : Rest s 0 (w ++ (123 ∷ o.rest)) = record { is = sym o.is } in
    let scanned : scan is_space 0 (w ++ (123 ∷ o.rest)) ≡ at k (123 ∷ o.rest) =
    scan_octets is_space 0 o.space (123 ∷ o.rest) in
    let there : Rest s k (123 ∷ o.rest) =
    subst (λ (st : At). Rest s st.pos st.rest) scanned (rest_scan is_space here) in
    let found : skip_space s 0 ≡ k = skip_scan is_space here ∙ ap (λ (st : At). st.pos) scanned in
    eq-eqb (octet_at s (skip_space s 0)) 123 (ap (octet_at s) found ∙ octet_cons there)

pub opens_curly : (s : List ℕ) → opens_object s ≡ true → OpensCurly s
unfolding opens_object
opens_curly s e =
    let here : Rest s 0 s = record { is = refl } in
    cases (scan is_space 0 s).rest (scanned is_space 0 s).text (rest_scan is_space here)
    (ap (octet_at s) (sym (skip_scan is_space here)) ∙ eqb-true (octet_at s (skip_space s 0)) 123 e)
  where
    cases : (t : List ℕ) → octets (run is_space s) ++ t ≡ s → Rest s (scan is_space 0 s).pos t →
        octet_at s (scan is_space 0 s).pos ≡ 123 → OpensCurly s
    cases [] i r o = absurd (omega (arith, octet_nil r))
    cases (c ∷ t) i r o = record {
      space = run is_space s;
      rest = t;
      is = ap (λ (x : ℕ). octets (run is_space s) ++ (x ∷ t)) (sym o ∙ octet_cons r) ∙ i;
    }

pub form_told : (s : List ℕ) → TrueWhere (opens_object s) (OpensCurly s)
form_told s = (opens_curly s, curly_opens s)
