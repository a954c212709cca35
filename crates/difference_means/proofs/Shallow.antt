-- The values of a recipient's parameters have at most 12 levels: what stands in a value has fewer than it.
use mathlib.Core.Path.{◌≡◌, sym, subst}
use mathlib.Core.Logic.{inl, inr}
use mathlib.Core.List.{List, [], ◌∷◌, map}
use Prim.Native.Nat.{ℕ, zero, suc, ◌<◌, ◌≤◌}
use native.Mathlib.Omega.{arith}
use Rattle.prelude.specs.Ascii.{ascii}
use Rattle.grammar.specs.Grammar.{Value}
use Rattle.grammar.specs.Places.{levels}
use Rattle.grammar.specs.Strings.{HasOctets}
use Rattle.grammar.specs.Bounds.{Every}
use Rattle.meets.specs.Members.{Member, members_of, elements_of, Named}
use Rattle.meets.specs.Rules.{Headers}
use Rattle.meets.specs.Meets.{HeaderIn, ProtectedIn, RecipientsIn, Recipient, Message, compact, json}
use Rattle.meets.proofs.Deciding.{some_every}
use Rattle.means.specs.Means.{own_of, headers_of}
use Rattle.same_values.proofs.Relation.{Shallow, ShallowMember, value_shallow}

-- Members with values of fewer than 12 levels.
abbrev pub AllShallow : List Member → Type 0
AllShallow ms = Every (ShallowMember 12) ms

-- Of no members, or of those of a value.
none_shallow : (hs : List Member) → hs ≡ [] → AllShallow hs
none_shallow hs e = subst AllShallow (sym e) tt

members_shallow : (v : Value) (hs : List Member) → levels v ≤ 12 → hs ≡ members_of v → AllShallow hs
members_shallow v hs h e = subst AllShallow (sym e) (value_shallow v 12 h).0

named_shallow : (w : List ℕ) (v : Value) (ms : List Member) → AllShallow ms → Named w v ms → levels v < 12
named_shallow w v ms h n =
    some_every (λ m. HasOctets m.name w × (m.value ≡ v)) (ShallowMember 12)
    (λ m t k. subst (Shallow 12) t.1 k) ms n h

header_shallow : (w : List ℕ) (ms hs : List Member) → AllShallow ms → HeaderIn w ms hs → AllShallow hs
header_shallow w ms hs h (inl a) = none_shallow hs a.1
header_shallow w ms hs h (inr (v, n, e)) = let low = named_shallow w v ms h n in members_shallow v hs (omega arith) e

protected_shallow : (ms : List Member) (header : List ℕ) (hs : List Member) → ProtectedIn ms header hs → AllShallow hs
protected_shallow ms header hs (inl a) = none_shallow hs a.1
protected_shallow ms header hs (inr (p, e, f)) = members_shallow p.reading.text.value hs p.reading.within e

objects_shallow : (vs : List Value) → Every (Shallow 12) vs → Every AllShallow (map members_of vs)
objects_shallow [] h = tt
objects_shallow (v ∷ vs) h =
    let low = h.0 in ((value_shallow v 12 (omega arith)).0, objects_shallow vs h.1)

recipients_shallow : (ms : List Member) (rs : List (List Member)) → AllShallow ms → RecipientsIn ms rs →
    Every AllShallow rs
recipients_shallow ms rs h (inl a) = subst (Every AllShallow) (sym a.1) (h, tt)
recipients_shallow ms rs h (inr (v, n, e)) =
    let low = named_shallow (ascii "recipients") v ms h n in
    subst (Every AllShallow) (sym e) (objects_shallow (elements_of v) (value_shallow v 12 (omega arith)).1)

own_shallow : (rs : List (List Member)) (each : Every Recipient rs) (n : ℕ) → Every AllShallow rs →
    AllShallow (own_of rs each n)
unfolding own_of
own_shallow [] each n h = tt
own_shallow (r ∷ rs) each zero h = header_shallow (ascii "header") r each.0.own h.0 each.0.header
own_shallow (r ∷ rs) each (suc n) h = own_shallow rs each.1 n h.1

-- Those of the three headers.
pub record HeadersShallow (h : Headers) : Type 0 where
  pub protected : AllShallow h.protected
  pub shared : AllShallow h.shared
  pub own : AllShallow h.own

pub headers_shallow : {known : List (List ℕ)} {message : List ℕ} (f : Message known message) (n : ℕ) →
    HeadersShallow (headers_of f n)
headers_shallow (compact c) n =
    let r = c.protected.reading in
    record { protected = (value_shallow r.text.value 12 r.within).0; shared = tt; own = tt }
headers_shallow (json j) n =
    let ms = members_of j.reading.text.value in
    let low = (value_shallow j.reading.text.value 12 j.reading.within).0 in
    record {
      protected = protected_shallow ms j.header j.protected j.protected_read;
      shared = header_shallow (ascii "unprotected") ms j.shared low j.shared_read;
      own = own_shallow j.recipients j.each n (recipients_shallow ms j.recipients low j.recipients_read);
    }
