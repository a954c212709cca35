-- The entries that an accepted message holds for a recipient stand for its parameters, whose names are distinct: form
-- by form.
use mathlib.Core.Path.{◌≡◌, refl, sym, ap, subst}
use mathlib.Core.Bool.{Bool, true, false, cond}
use mathlib.Core.List.{List, [], ◌∷◌, ◌++◌, append-nil}
use Prim.Native.Nat.{ℕ, ◌<◌}
use native.Mathlib.Omega.{arith}
use lib.ListN.{length}
use Rattle.grammar.specs.Grammar.{Str}
use Rattle.grammar.specs.Reader.{opens_object}
use Rattle.rows.specs.Rows.{Entry, Texts, read_texts}
use Rattle.jose.specs.Registered.{registered}
use Rattle.headers.specs.Headers.{header_text, protected_entries}
use Rattle.shape.specs.Shape.{component}
use Rattle.shape.specs.Recipients.{top_of, top_entries, recipients_in, components_in}
use Rattle.jwe.specs.Compact.{compact_components}
use Rattle.jwe.specs.General.{shared_entries, own_entries, parameters}
use Rattle.jwe.specs.Judge.{asked, Outcome, outcome}
use Rattle.jwe.specs.Inner.Outcomes.{compact_outcome, outcome_of, json_outcome}
use Rattle.jwe.proofs.Outcomes.{by_form}
use Rattle.meets.specs.Members.{Member, names_of, Distinct, OneForOne}
use Rattle.meets.specs.Rules.{Headers}
use Rattle.meets.specs.Rules as rules
use Rattle.meets.specs.Meets.{Compact, Json, Message, compact, json, count}
use Rattle.meets.proofs.OneForOne.{zip_append, zip_into, zip_map_left}
use Rattle.meets.proofs.Deciding.{zip_with}
use Rattle.meets.proofs.Entries.{EntryStands, entry_seen, entry_origin}
use Rattle.meets.proofs.EachRecipient.{protected_entries_lem, shared_entries_lem, own_entries_lem}
use Rattle.meets.proofs.RulesDecided.{parameters_distinct}
use Rattle.meets.proofs.FormsApart.{forms_apart}
use Rattle.means.specs.Means.{headers_of}
use Rattle.means.proofs.JsonStands.{json_stands}
use Rattle.means.proofs.ResultMeans.{compact_stand}
use Rattle.same_values.proofs.Relation.{ShallowMember}
use Rattle.difference_means.specs.Meaning.{Parameter, of_origin, of_headers, parameters_of}
use Rattle.difference_means.proofs.Partners.{StandsFor, names_in, Stand}
use Rattle.difference_means.proofs.Shallow.{AllShallow, HeadersShallow, headers_shallow}

-- Entries of one origin.
module _ (ts : Texts) (o : ℕ) where
  abbrev parameter : Member → Parameter
  parameter m = record { origin = o; name = m.name; value = m.value }

  abbrev Entered : Member → Entry → Type 0
  Entered m e = EntryStands registered ts o m e × ShallowMember 12 m

  entry_stands : (m : Member) (e : Entry) → Entered m e → StandsFor ts (parameter m) e
  entry_stands m e (r, low) =
      let s = entry_seen registered ts o m e r in
      record {
        origin = entry_origin registered ts o m e r;
        spells = s.spells;
        stands = record { kinds = s.kinds; stands = s.stands };
        shallow = omega arith;
      }

  header_stands : (ms : List Member) (es : List Entry) → OneForOne (EntryStands registered ts o) ms es → AllShallow ms →
      Stand ts (of_origin o ms) es
  header_stands ms es z h =
      (zip_map_left (StandsFor ts) parameter ms es).0
      (zip_into Entered (λ m e. StandsFor ts (parameter m) e) entry_stands ms es
      (zip_with (EntryStands registered ts o) (ShallowMember 12) ms es z h))

-- Of three headers.
headers_stand : (ts : Texts) (h : Headers) → HeadersShallow h → (ps ss os : List Entry) →
    OneForOne (EntryStands registered ts 0) h.protected ps → OneForOne (EntryStands registered ts 1) h.shared ss →
    OneForOne (EntryStands registered ts 2) h.own os → Stand ts (of_headers h) (ps ++ (ss ++ os))
headers_stand ts h low ps ss os zp zs zo =
    zip_append (StandsFor ts) (of_origin 0 h.protected) ps (of_origin 1 h.shared ++ of_origin 2 h.own) (ss ++ os)
    (header_stands ts 0 h.protected ps zp low.protected)
    (zip_append (StandsFor ts) (of_origin 1 h.shared) ss (of_origin 2 h.own) os
    (header_stands ts 1 h.shared ss zs low.shared) (header_stands ts 2 h.own os zo low.own))

-- What an outcome holds for a recipient of a message.
abbrev Standing : List ℕ → List Parameter → Outcome → Type 0
Standing message ps o = Stand (read_texts o.header message) ps o.entries

module _ (known : List (List ℕ)) (message : List ℕ) (n : ℕ) where
  compact_standing : (c : Compact known message) →
      Standing message (parameters_of (compact c) n) (compact_outcome message)
  unfolding compact_outcome
  compact_standing c =
      let h = headers_of (compact c) n in
      let H = header_text message (compact_components message).protected in
      let es = protected_entries H in
      subst (λ (fs : List Entry). Stand (read_texts H message) (of_headers h) fs) (append-nil es)
      (headers_stand (read_texts H message) h (headers_shallow (compact c) n) es [] []
      (protected_entries_lem H message h.protected (compact_stand known message c n)) tt tt)

  json_standing : (j : Json known message) → n < length j.recipients →
      Standing message (parameters_of (json j) n) (json_outcome message n)
  unfolding json_outcome outcome_of components_in parameters
  json_standing j below =
      let s = json_stands known message j n below in
      let h = headers_of (json j) n in
      let es = top_entries message in
      let H = header_text message (component 1 es) in
      let r = asked (recipients_in message es) n in
      headers_stand (read_texts H message) h (headers_shallow (json j) n) (protected_entries H)
      (shared_entries message (top_of es)) (own_entries message r)
      (protected_entries_lem H message h.protected s.protected) (shared_entries_lem H message es h.shared s.shared)
      (own_entries_lem H message r h.own s.own)

  pub parameters_stand : (f : Message known message) → n < count f →
      Stand (read_texts (outcome message n).header message) (parameters_of f n) (outcome message n).entries
  parameters_stand f below = by_form message n (Standing message (parameters_of f n)) (cases f below)
    where
      told : (f : Message known message) (b : Bool) → b ≡ opens_object message →
          Standing message (parameters_of f n) (cond b (json_outcome message n) (compact_outcome message)) →
          Standing message (parameters_of f n)
          (cond (opens_object message) (json_outcome message n) (compact_outcome message))
      told f b e s =
          subst (λ (c : Bool).
          Standing message (parameters_of f n) (cond c (json_outcome message n) (compact_outcome message))) e s

      cases : (f : Message known message) → n < count f →
          Standing message (parameters_of f n)
          (cond (opens_object message) (json_outcome message n) (compact_outcome message))
      cases (compact c) below = told (compact c) false (sym ((forms_apart known message).0 c)) (compact_standing c)
      cases (json j) below =
          told (json j) true (sym ((forms_apart known message).1 j.reading)) (json_standing j below)

-- Names

names_of_lem : (o : ℕ) (ms ns : List Member) (qs : List Parameter) → names_in qs ≡ names_of ns →
    names_in (of_origin o ms ++ qs) ≡ names_of (ms ++ ns)
names_of_lem o [] ns qs e = e
names_of_lem o (m ∷ ms) ns qs e = ap (λ (xs : List Str). m.name ∷ xs) (names_of_lem o ms ns qs e)

names_same : (h : Headers) → names_in (of_headers h) ≡ names_of (rules.parameters h)
names_same h =
    names_of_lem 0 h.protected (h.shared ++ h.own) _ (names_of_lem 1 h.shared h.own _ (last h.own))
  where
    last : (ms : List Member) → names_in (of_origin 2 ms) ≡ names_of ms
    last [] = refl
    last (m ∷ ms) = ap (λ (xs : List Str). m.name ∷ xs) (last ms)

pub names_distinct : {known : List (List ℕ)} {message : List ℕ} (f : Message known message) (n : ℕ) → n < count f →
    Distinct (names_in (parameters_of f n))
names_distinct {known} {message} f n below = subst Distinct (sym (names_same (headers_of f n))) (cases f below)
  where
    cases : (f : Message known message) → n < count f → Distinct (names_of (rules.parameters (headers_of f n)))
    cases (compact c) below =
        parameters_distinct (headers_of (compact c) n)
        (record { protected = c.object.distinct; shared = tt; own = tt }) c.rules.apart
    cases (json j) below =
        let s = json_stands known message j n below in
        parameters_distinct (headers_of (json j) n) s.once s.rules.apart
