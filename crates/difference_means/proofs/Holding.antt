-- What an accepted message holds is what it meets: its numbers, the octets at its places, and its entries, recipient by
-- recipient.
use mathlib.Core.Path.{◌≡◌, ap, subst, ◌∙◌}
use mathlib.Core.Bool.{Bool, cond}
use mathlib.Core.List.{List, [], ◌∷◌, map}
use Prim.Native.Nat.{ℕ, zero, suc, ◌<◌}
use borrow.Author.Tests.{eq-eqb}
use Rattle.prelude.specs.Limits.{header_room, list_room}
use Rattle.grammar.specs.Bounds.{Every}
use Rattle.headers.specs.Components.{with_key}
use Rattle.jwe.specs.Judge.{Call, call, call_for, refusal, held, outcome, accepted, refused, result_of}
use Rattle.meets.specs.Members.{Member, Distinct}
use Rattle.meets.specs.Meets.{Octets, Recipient, Message, compact, json, count, Meets}
use Rattle.meets.specs.Handed.{Rows, Applies}
use Rattle.meets.proofs.HandedExactly.{outcome_handed, each_recipient}
use Rattle.meets.proofs.AppliesOnce.{applies_once}
use Rattle.meets.proofs.Accepted.{accepted_exactly}
use Rattle.means.specs.Means.{form_of, header_of, key_of, Contents, contents_of, PlacesShow, ResultMeans}
use Rattle.means.proofs.ResultMeans.{result_means}
use Rattle.means.proofs.HandsOut.{hands_out}
use Rattle.parameters.specs.Parameters.{side_of}
use Rattle.differences.specs.Differences.{compared, texts_of}
use Rattle.differences.specs.Differences as differences
use Rattle.difference_means.specs.Meaning.{parameters_of, RowsFor, sides}
use Rattle.difference_means.proofs.Partners.{names_in, Stand}
use Rattle.difference_means.proofs.ParametersStand.{parameters_stand, names_distinct}
use Rattle.difference_means.proofs.Sides.{sides_listed}

-- The components are octets.
pub record AllOctets (x : Contents) : Type 0 where
  pub key : Octets x.key
  pub iv : Octets x.iv
  pub aad : Octets x.aad
  pub ciphertext : Octets x.ciphertext
  pub tag : Octets x.tag

key_octets : (rs : List (List Member)) (each : Every Recipient rs) (n : ℕ) → Octets (key_of rs each n)
unfolding key_of
key_octets [] each n = tt
key_octets (r ∷ rs) each zero = each.0.octets
key_octets (r ∷ rs) each (suc n) = key_octets rs each.1 n

all_octets : {known : List (List ℕ)} {message : List ℕ} (f : Message known message) (n : ℕ) → AllOctets (contents_of f n)
all_octets (compact c) n =
    let o = c.octets in record { key = o.1; iv = o.2; aad = tt; ciphertext = o.3; tag = o.4 }
all_octets (json j) n =
    let o = j.octets in
    record { key = key_octets j.recipients j.each n; iv = o.1; aad = o.2; ciphertext = o.3; tag = o.4 }

-- Of recipient n.
pub record Holds {known : List (List ℕ)} {message : List ℕ} (f : Message known message) (x : Rows)
    (n : ℕ) : Type 0 where
  pub form : (held message).form ≡ form_of f
  pub recipients : (held message).recipients ≡ count f
  pub header : (held message).header ≡ header_of f
  pub shows : PlacesShow message (with_key (held message).components ((held message).share n).key) (contents_of f n)
  pub octets : AllOctets (contents_of f n)
  pub stand : Stand (texts_of (compared message)) (parameters_of f n) (differences.parameters_of (compared message) n)
  pub sides : map side_of (differences.parameters_of (compared message) n) ≡ sides x
  pub distinct : Distinct (names_in (parameters_of f n))

-- A message that is accepted, given room.
module _ (message known : List ℕ) (m : Meets (call message known 0 header_room list_room)) where
  abbrev here : Call
  here = call message known 0 header_room list_room

  module _ (n : ℕ) (below : n < count m.form) where
    passes : refusal (call_for n here) ≡ 0
    passes = (accepted_exactly (call_for n here)).1 (each_recipient here m n below)

    means : ResultMeans m.form n (accepted message (outcome message n))
    unfolding result_of
    means =
        subst (ResultMeans m.form n)
        (ap (λ (b : Bool). cond b (accepted message (outcome message n)) (refused (refusal (call_for n here))))
        (eq-eqb (refusal (call_for n here)) 0 passes))
        (result_means here m n below)

    pub holding : (x : Rows) → Applies message n (header_of m.form) x → Holds m.form x n
    unfolding outcome accepted
    holding x a =
        let h = outcome_handed (call_for n here) passes in
        let once = applies_once (call_for n here) passes _ _ h.rows x h.applies a in
        record {
          form = means.form;
          recipients = means.recipients;
          header = once.0;
          shows = means.shows;
          octets = all_octets m.form n;
          stand = parameters_stand m.list.names message n m.form below;
          sides = sides_listed (outcome message n).entries h.rows h.list ∙ ap sides once.1;
          distinct = names_distinct m.form n below;
        }

  -- There are rows that apply: those that are handed out.
  pub rows_for_lem : RowsFor m.form
  rows_for_lem = record {
    rows = λ n below. (hands_out here m n below [] []).rows;
    apply = λ n below.
        let h = hands_out here m n below [] [] in
        subst (λ (w : List ℕ). Applies message n w h.rows) h.header_is h.applies;
  }
