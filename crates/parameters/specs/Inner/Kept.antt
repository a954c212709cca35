-- What is kept of parameters that have been matched and compared.
use Rattle.std.specs.Prelude.{◌≡◌, Bool, true, false, List, Option, None, Some, IfSome, ℕ, ◌<◌, ◌≤◌, length, get_or}
use Rattle.std.proofs.Math.Option as lists
use Rattle.rows.specs.Rows.{Entry, Texts, name_in}
use Rattle.matching.specs.Matching.{partner}
use Rattle.matching.specs.Inner.Places.{nth, found, Matched}
use Rattle.parameters.specs.Parameters.{other_value}
use Rattle.parameters.specs.declared.Pair.{Pair}
use Rattle.parameters.specs.declared.Kept.{Kept}

-- A pair as it was found among some entries: the partner, and whether the values differ.

abbrev pub partner_of : List Entry → Option Pair → lists.Option Entry
partner_of fs None = lists.none
partner_of fs (Some p) = nth fs p.at

abbrev pub differs : Option Pair → Bool
differs None = false
differs (Some p) = p.other

abbrev pub there : lists.Option Entry → Bool
there lists.none = false
there (lists.some e) = true

-- The pair of an entry e on the left, whose partner is sought among gs; its number is that among all of fs.
pub record Pairs (ls rs : Texts) (e : Entry) (gs fs : List Entry) (p : Option Pair) : Type 0 where
  pub fits : IfSome p (λ q. q.at < length fs)
  pub is : partner rs (name_in ls e) gs ≡ partner_of fs p
  pub other : differs p ≡ other_value ls rs e (partner_of fs p)

-- For each of some entries, es on the left and fs on the right, whether its value is another than that of its partner, whose number is kept
-- beside it.
abbrev pub Valued : Texts → Texts → List Entry → List Entry → List (Option ℕ) → List Bool → Type 0
Valued ls rs es fs partners others =
    (k : ℕ) (e : Entry) → nth es k ≡ lists.some e → get_or others k false ≡ other_value ls rs e (found fs (get_or partners k None))

-- What is kept of the entries es that are all recipients' on the left, and fs on the right; there is room for m on each side.
pub record Keeps (m : ℕ) (ls rs : Texts) (es fs : List Entry) (k : Kept m) : Type 0 where
  pub room : (length es ≤ m) × (length fs ≤ m)
  pub matched : Matched ls rs es fs k.partners
  pub valued : Valued ls rs es fs k.partners k.others
  pub back : Matched rs ls fs es k.back
