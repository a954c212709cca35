-- `place_of` goes through the six numbers.
use mathlib.Core.Path.{ap, sym}
use Prim.Native.Nat.{ℕ}
use native.Mathlib.Omega.{arith}
use Rattle.headers.specs.Components.{places}
use Rattle.headers.specs.Answers.{code_place, components_of}
use Rattle.host.specs.Component.{place_at, component_place}
use Rattle.host.proofs.Decoding.{place_absent}
use Rattle.host.proofs.component.place_of.Goals as goal

pub returns-in-0 : goal.returns-in-0
unfolding place_at component_place
returns-in-0 c =
    sym (ap (λ (n : ℕ). code_place (component_place (components_of c.args.q) n)) c.in-0.is)

pub returns-in-1 : goal.returns-in-1
unfolding place_at component_place
returns-in-1 c =
    sym (ap (λ (n : ℕ). code_place (component_place (components_of c.args.q) n)) c.in-1.is)

pub returns-in-2 : goal.returns-in-2
unfolding place_at component_place
returns-in-2 c =
    sym (ap (λ (n : ℕ). code_place (component_place (components_of c.args.q) n)) c.in-2.is)

pub returns-in-3 : goal.returns-in-3
unfolding place_at component_place
returns-in-3 c =
    sym (ap (λ (n : ℕ). code_place (component_place (components_of c.args.q) n)) c.in-3.is)

pub returns-in-4 : goal.returns-in-4
unfolding place_at component_place
returns-in-4 c =
    sym (ap (λ (n : ℕ). code_place (component_place (components_of c.args.q) n)) c.in-4.is)

pub returns-in-5 : goal.returns-in-5
unfolding place_at component_place
returns-in-5 c =
    sym (ap (λ (n : ℕ). code_place (component_place (components_of c.args.q) n)) c.in-5.is)

pub returns-in_default : goal.returns-in_default
unfolding component_place
returns-in_default c =
    let given = c.args in
    let n = given.n in
    let none = c.in_default.in_default-own.rest in
    sym (ap code_place (place_absent (places (components_of given.q)) n
    (omega (arith, none.1, none.0.1, none.0.0.1, none.0.0.0.1, none.0.0.0.0.1, none.0.0.0.0.0.1))))
