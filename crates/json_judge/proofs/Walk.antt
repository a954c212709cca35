-- A loop over the recipients of a sound table: those from the next one on.
use mathlib.Core.Path.{◌≡◌, ap, sym, subst, ◌∙◌}
use mathlib.Core.Bool.{Bool, true, false, ◌||◌}
use mathlib.Core.List.{List, [], ◌∷◌, map}
use Prim.Native.Nat.{ℕ, ◌+◌, ◌<◌}
use lib.ListN.{drop}
use Rattle.prelude.specs.Any.{any}
use Rattle.grammar.specs.Bounds.{Every}
use Rattle.parts.specs.Parts.{part}
use Rattle.recipients.specs.Table.{RawRecipient}
use Rattle.recipients.specs.Parsed.{said_count, body_start, recipient_at, recipients_in}
use Rattle.recipients.specs.Inner.Answers.{body_at, shown}
use Rattle.recipients.specs.declared.Body.{Body}
use Rattle.recipients.proofs.Places.{recipients_next, start_next}

-- What the code shows of the i-th recipient.
module _ (t : List ℕ) (i : ℕ) (body : Body) (is : body ≡ body_at t i) where
  pub header_is_lem : part t body.header.start body.header.len ≡ (recipient_at t i).header
  unfolding body_at recipient_at
  header_is_lem = ap (λ (b : Body). part t b.header.start b.header.len) is

  pub next_start : body.key.start + body.key.len ≡ body_start t (i + 1)
  unfolding body_at
  next_start = ap (λ (b : Body). b.key.start + b.key.len) is ∙ sym (start_next t i)

-- Whether one of those that are left has a fault: the next one, those behind it, none.
module _ (f : RawRecipient → Bool) (t : List ℕ) (bs : List Body) where
  any_next : (b : Body) (rest : List Body) → bs ≡ b ∷ rest → any f (map (shown t) bs) ≡ (f (shown t b) || any f (map (shown t) rest))
  unfolding any
  any_next b rest e = ap (λ (l : List Body). any f (map (shown t) l)) e

  pub found_any : (b : Body) (rest : List Body) → bs ≡ b ∷ rest → f (shown t b) ≡ true → true ≡ any f (map (shown t) bs)
  found_any b rest e found = sym (any_next b rest e ∙ ap (λ (x : Bool). x || any f (map (shown t) rest)) found)

  pub passed_any : (b : Body) (rest : List Body) → bs ≡ b ∷ rest → f (shown t b) ≡ false →
      any f (map (shown t) rest) ≡ any f (map (shown t) bs)
  passed_any b rest e passed = sym (any_next b rest e ∙ ap (λ (x : Bool). x || any f (map (shown t) rest)) passed)

  pub end_any : bs ≡ [] → false ≡ any f (map (shown t) bs)
  unfolding any
  end_any e = sym (ap (λ (l : List Body). any f (map (shown t) l)) e)

-- What holds of all that are left
pub every_next : (P : RawRecipient → Type 0) (t : List ℕ) (bs : List Body) (b : Body) (rest : List Body) → bs ≡ b ∷ rest →
    Every P (map (shown t) bs) → P (shown t b) × Every P (map (shown t) rest)
every_next P t bs b rest e h = subst (λ (l : List Body). Every P (map (shown t) l)) e h

-- What holds of all from the i-th on.
pub next_every : (P : RawRecipient → Type 0) (t : List ℕ) (i : ℕ) → i < said_count t → Every P (drop i (recipients_in t)) →
    P (recipient_at t i) × Every P (drop (i + 1) (recipients_in t))
next_every P t i h e = subst (Every P) (recipients_next t i h) e
