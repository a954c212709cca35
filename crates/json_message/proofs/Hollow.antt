-- A header that stands in a message is an object without a member exactly where its text is one.
use mathlib.Core.Path.{◌≡◌, refl, sym, ap, subst, ◌∙◌}
use mathlib.Core.List.{List, [], ◌∷◌, ◌++◌, map, append_assoc}
use mathlib.Core.Bool.{Bool, true, false, cond, true≢false}
use Prim.Native.Nat.{ℕ, suc, ◌+◌}
use native.Mathlib.Omega.{arith}
use lib.ListN.{length}
use borrow.Author.Tests.{eq-eqb}
use Rattle.prelude.specs.Limits.{levels}
use Rattle.grammar.specs.Grammar.{is_space, octets, Sign, leaves_sign, curly, square, Value, nested}
use Rattle.grammar.specs.Grammar.{empty, string, number, literal, literal-true, literal-false, literal-null, Entries}
use Rattle.grammar.specs.Grammar.{last, more, leaves_value}
use Rattle.grammar.specs.Places.{kind, placed, placed_entries, placed_text, place, place_name, leading, start_of}
use Rattle.grammar.specs.Places.{Placed, item, members, Member}
use Rattle.grammar.specs.Reader.{octet_at, step, skip_space, members_at, rows_in, rows_at, value_at}
use Rattle.grammar.specs.Readings.{Reading}
use Rattle.grammar.specs.Shown.{Shown, Everywhere}
use Rattle.grammar.proofs.Parse.{At, at, scan}
use Rattle.grammar.proofs.Scan.{scan_octets}
use Rattle.grammar.proofs.Complete.{sign_onto}
use Rattle.grammar.proofs.Positions.{Rest, rest_along, rest_next, octet_cons, step_cons, skip_scan, rest_scan}
use Rattle.grammar.proofs.Theorems.{read_complete}
use Rattle.headers.specs.Headers.{outermost}
use Rattle.shape.specs.Shape.{hollow}
use Rattle.jwe.specs.General.{is_hollow}
use Rattle.json_text.specs.Moved.{moved_member}
use Rattle.json_text.specs.Inner.Placed.{moved}
use Rattle.json_text.proofs.Embedded.{Stands, stands_whole, here, shown_members, embedded_members}
use Rattle.json_text.proofs.Made.{given, given_kind, given_levels, made_placed}
use Rattle.json_text.proofs.Fields.{made_shows, placed_from}

closed_skip : (m : ℕ) (Z : List ℕ) → scan is_space m (125 ∷ Z) ≡ at m (125 ∷ Z)
unfolding scan
closed_skip m Z = refl

empty_hollow : (s : List ℕ) (x y : Sign) (n : ℕ) (r : List ℕ) → Rest s n (leaves_value (empty curly x y) ++ r) →
    hollow curly s (n + length (octets x.before)) ≡ true
unfolding leaves_value
empty_hollow s x y n r h =
    let m = n + length (octets x.before) in
    let W = octets y.after ++ r in
    let Z = octets x.after ++ (octets y.before ++ (125 ∷ W)) in
    let e : leaves_value (empty curly x y) ++ r ≡ octets x.before ++ (123 ∷ Z) =
    append_assoc (leaves_sign 123 x) (leaves_sign 125 y) r
    ∙ sign_onto 123 x (leaves_sign 125 y ++ r)
    ∙ ap (λ z. octets x.before ++ (123 ∷ (octets x.after ++ z))) (sign_onto 125 y r) in
    let opens : Rest s m (123 ∷ Z) = rest_along (octets x.before) (record { is = h.is ∙ e }) in
    let inside = rest_next opens in
    let k = suc m + length (octets x.after) + length (octets y.before) in
    let scanned : scan is_space (suc m) Z ≡ at k (125 ∷ W) =
    scan_octets is_space (suc m) x.after (octets y.before ++ (125 ∷ W))
    ∙ scan_octets is_space (suc m + length (octets x.after)) y.before (125 ∷ W) ∙ closed_skip k W in
    let closes : Rest s k (125 ∷ W) =
    subst (λ (st : At). Rest s st.pos st.rest) scanned (rest_scan is_space inside) in
    let there : skip_space s (step s m) ≡ k =
    ap (skip_space s) (step_cons opens) ∙ skip_scan is_space inside ∙ ap (λ (st : At). st.pos) scanned in
    eq-eqb (octet_at s (skip_space s (step s m))) 125 (ap (octet_at s) there ∙ octet_cons closes)

hollow_none : (l : ℕ) (s : List ℕ) (at : ℕ) → hollow curly s at ≡ true → members_at l s at ≡ []
unfolding members_at rows_in
hollow_none l s at e =
    ap (λ (b : Bool). cond b [] (rows_at (value_at l s) curly s (length s) (skip_space s (step s at)))) e

entries_full : (n : ℕ) (es : Entries curly) → is_hollow (members (placed_entries n es)) ≡ false
unfolding placed members place_name
entries_full n (last l v) = refl
entries_full n (more l v x es) = refl

full : (l : ℕ) (s : List ℕ) (at : ℕ) → is_hollow (members_at l s at) ≡ false → hollow curly s at ≡ is_hollow (members_at l s at)
full l s at e = cases (hollow curly s at) refl
  where
    cases : (b : Bool) → hollow curly s at ≡ b → hollow curly s at ≡ is_hollow (members_at l s at)
    cases true h = absurd (true≢false (sym (ap is_hollow (hollow_none l s at h)) ∙ e))
    cases false h = h ∙ sym e

pub hollow_is : (l : ℕ) (s : List ℕ) (v : Value) (n : ℕ) (r : List ℕ) → Rest s n (leaves_value v ++ r) →
    Everywhere (Shown l s) (placed n v) → kind v ≡ 0 →
    hollow curly s (start_of (placed n v)) ≡ is_hollow (members_at l s (start_of (placed n v)))
unfolding placed place leading kind members
hollow_is l s (nested curly x es y) n r h shows k =
    full l s _ (ap is_hollow (shown_members l s _ (here _ _ shows) refl) ∙ entries_full _ es)
hollow_is l s (nested square x es y) n r h shows k = absurd (omega arith)
hollow_is l s (empty curly x y) n r h shows k =
    empty_hollow s x y n r h ∙ sym (ap is_hollow (shown_members l s _ (here _ _ shows) refl))
hollow_is l s (empty square x y) n r h shows k = absurd (omega arith)
hollow_is l s (string x) n r h shows k = absurd (omega arith)
hollow_is l s (number x) n r h shows k = absurd (omega arith)
hollow_is l s (literal literal-true) n r h shows k = absurd (omega arith)
hollow_is l s (literal literal-false) n r h shows k = absurd (omega arith)
hollow_is l s (literal literal-null) n r h shows k = absurd (omega arith)

map_hollow : (f : Member → Member) (ms : List Member) → is_hollow (map f ms) ≡ is_hollow ms
map_hollow f [] = refl
map_hollow f (m ∷ ms) = refl

moved_start : (m : ℕ) (p : Placed) → start_of (moved m p) ≡ m + start_of p
unfolding moved
moved_start m (item k q ps) = refl

pub header_hollow : {s : List ℕ} {m : ℕ} {w : List ℕ} → Stands s m w → Reading levels w →
    hollow curly s (m + skip_space w 0) ≡ is_hollow (outermost w)
unfolding outermost
header_hollow {s} {m} {w} h r =
    let x = given r in
    let v = x.value in
    let starts : start_of (placed m v) ≡ m + skip_space w 0 =
    ap start_of (placed_from m v ∙ ap (moved m) (made_placed x r))
    ∙ moved_start m (placed_text r.text)
    ∙ ap (λ k. m + k) (read_complete levels w r).1 in
    let shows = made_shows levels x h (omega (arith, given_levels r, r.within)) in
    let there = hollow_is levels s v m h.after (record { is = h.is ∙ ap (λ z. z ++ h.after) (sym x.spelled) }) shows
    (given_kind r) in
    ap (hollow curly s) (sym starts)
    ∙ there
    ∙ ap (λ k. is_hollow (members_at levels s k)) starts
    ∙ ap is_hollow (embedded_members levels r h)
    ∙ map_hollow (moved_member m) (members_at levels w (skip_space w 0))

-- Of a text alone.
pub text_hollow : (w : List ℕ) → Reading levels w → hollow curly w (skip_space w 0) ≡ is_hollow (outermost w)
text_hollow w r =
    let e : skip_space w 0 ≡ 0 + skip_space w 0 = omega arith in
    ap (hollow curly w) e ∙ header_hollow (stands_whole w) r
