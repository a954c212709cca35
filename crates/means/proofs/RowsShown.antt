-- Rows where members stand show them: the value's leaves stand at its place, without the space around it.
use mathlib.Core.Path.{◌≡◌, ap, sym, ◌∙◌}
use mathlib.Core.Bool.{Bool, true, false, cond}
use mathlib.Core.List.{List, [], ◌∷◌, ◌++◌, append_assoc, append-nil}
use Prim.Native.Nat.{ℕ, ◌+◌}
use native.Mathlib.Omega.{arith}
use lib.ListN.{length, take, drop, length-append}
use lib.Seq.{take-append_seam}
use lib.Dec.{eqb}
use Rattle.parts.proofs.Laws.{part_fits}
use Rattle.grammar.specs.Grammar.{octets, leaves_sign, leaves_str, leaves_num, letters, opening, closing, Value, nested}
use Rattle.grammar.specs.Grammar.{empty, string, number, literal, leaves_value, leaves_entries, curly}
use Rattle.grammar.specs.Places.{leading, trailing, place}
use Rattle.grammar.specs.Places as places
use Rattle.grammar.specs.Bounds.{Every, Inside}
use Rattle.grammar.specs.Reader.{members_at}
use Rattle.grammar.proofs.Positions.{Rest, rest_along}
use Rattle.json_read.proofs.Within.{members_within}
use Rattle.headers.specs.Headers.{outermost}
use Rattle.headers.specs.Headers as headers
use Rattle.meets.specs.Members.{Member}
use Rattle.meets.proofs.OneForOne.{OneForOne}
use Rattle.meets.proofs.Standing.{Stands, MemberStands}
use Rattle.means.specs.Means.{RowShows}

-- A value's leaves between the space at its ends.
around : (v : Value) → (w : List ℕ) × (leaves_value v ≡ octets (leading v) ++ (w ++ octets (trailing v)))
unfolding leaves_value leading trailing leaves_sign octets
around (nested b x es y) = (
  (opening b ∷ octets x.after) ++ (leaves_entries es ++ (octets y.before ++ (closing b ∷ []))),
  simp append_assoc,
)
around (empty b x y) = ((opening b ∷ octets x.after) ++ (octets y.before ++ (closing b ∷ [])), simp append_assoc)
around (string x) = (leaves_str x, sym (append-nil (leaves_str x)))
around (number x) = (leaves_num x, sym (append-nil (leaves_num x)))
around (literal x) = (letters x, sym (append-nil (letters x)))

value_shown_lem : (s : List ℕ) (v : Value) (at size : ℕ) → Stands s v at size →
    leaves_value v ≡ octets (leading v) ++ (take size (drop at s) ++ octets (trailing v))
unfolding place
value_shown_lem s v at size h =
    let (w, e) = around v in
    let L = octets (leading v) in
    let T = octets (trailing v) in
    let there : Rest s h.from (L ++ (w ++ (T ++ h.rest))) =
    record { is = h.leaves.is ∙ ap (λ (z : List ℕ). z ++ h.rest) e ∙ simp append_assoc } in
    let along : Rest s (h.from + length L) (w ++ (T ++ h.rest)) = rest_along L there in
    let long : length (leaves_value v) ≡ length L + (length w + length T) = ap length e ∙ simp length-append in
    let sized = h.sized in
    let sizes : size ≡ length w = omega arith in
    let shown : take size (drop at s) ≡ w =
    ap (λ (n : ℕ). take n (drop at s)) sizes
    ∙ ap (λ (n : ℕ). take (length w) (drop n s)) (sym h.starts)
    ∙ ap (take (length w)) along.is ∙ take-append_seam w (T ++ h.rest) in
    e ∙ ap (λ (z : List ℕ). L ++ (z ++ T)) (sym shown)

module _ (s : List ℕ) where
  row_shows : (p : Member) (m : places.Member) → MemberStands s p m → Inside curly (length s) m → RowShows s p m
  row_shows p m h i = record {
    spelled = sym (part_fits s m.name_start m.name_size i.name) ∙ h.spelled;
    kinds = h.kinds;
    value = value_shown_lem s p.value m.value_start m.value_size h.stands;
    name_fits = i.name;
    value_fits = i.value;
  }

  rows_show : (ps : List Member) (ms : List places.Member) → OneForOne (MemberStands s) ps ms →
      Every (Inside curly (length s)) ms → OneForOne (RowShows s) ps ms
  rows_show [] [] z h = tt
  rows_show [] (m ∷ ms) z h = absurd z
  rows_show (p ∷ ps) [] z h = absurd z
  rows_show (p ∷ ps) (m ∷ ms) z h = (row_shows p m z.0 h.0, rows_show ps ms z.1 h.1)

  -- The members of a text, and those of an object of the message.

  pub outermost_show : (ps : List Member) → OneForOne (MemberStands s) ps (outermost s) →
      OneForOne (RowShows s) ps (outermost s)
  unfolding outermost
  outermost_show ps z = rows_show ps _ z (members_within 12 s _)

  pub members_show : (at : ℕ) (ps : List Member) → OneForOne (MemberStands s) ps (headers.members_of s at) →
      OneForOne (RowShows s) ps (headers.members_of s at)
  unfolding headers.members_of
  members_show at ps z = rows_show ps (headers.members_of s at) z (cases (eqb at 0))
    where
      cases : (b : Bool) → Every (Inside curly (length s)) (cond b [] (members_at 12 s at))
      cases true = tt
      cases false = members_within 12 s at
