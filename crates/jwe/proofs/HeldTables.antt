-- What a message holds, as judging leaves it: by its top level and recipients, and in the tables; and the parameters of one recipient
-- after the other gathered in one table.
use mathlib.Core.Path.{◌≡◌, refl, ap, ap₂, sym, subst, ◌∙◌}
use mathlib.Core.Bool.{Bool, true, false, cond}
use mathlib.Core.List.{List, [], ◌++◌}
use Prim.Native.Nat.{ℕ, zero, suc, ◌+◌, ◌*◌, ◌≤◌, ◌<◌}
use native.Mathlib.Omega.{arith}
use lib.ListN.{length, take, drop, get_or, set, length-set}
use lib.Seq.{length-take-le, get_or-set_same, get_or-set_other}
use Rattle.prelude.specs.Buffer.{written}
use Rattle.prelude.specs.Limits.{header_room}
use Rattle.prelude.specs.Refusals.{Test, first}
use Rattle.prelude.specs.Refusals.{Stage}
use Rattle.prelude.specs.Refusals.{Refused}
use Rattle.grammar.specs.Reader.{opens_object}
use Rattle.grammar.specs.Places.{Place}
use Rattle.rows.specs.Rows.{Entry, read_texts}
use Rattle.rows.specs.Tables.{entries_of, width, header_table, recipient_table}
use Rattle.rows.specs.Inner.Prints.{flat, Printed}
use Rattle.rows.proofs.Entries.{entries_length}
use Rattle.rows.proofs.Printing.{StandIn, entries_stand}
use Rattle.jose.specs.Registered.{registered}
use Rattle.headers.specs.Headers.{members_of, header_entries}
use Rattle.shape.specs.Shape.{Recipient}
use Rattle.shape.specs.Recipients.{Top, top_of, top_entries, top_order, elements_order, recipients_in}
use Rattle.jwe.specs.Compact.{compact_order}
use Rattle.jwe.specs.General.{own_entries, any_misspelled, json_later, json_order}
use Rattle.jwe.specs.Judge.{Held, json_held, compact_held, held, asked, Outcome, outcome_for, accepted}
use Rattle.jwe.specs.Answers.{numbers, refused_by}
use Rattle.jwe.specs.Inner.Stages.{recipients_of, LaidAt, Owned, Judges}
use Rattle.jwe.specs.Inner.Holding.{held_of, HoldsShare, HoldsCommon, Holds, HoldsBy, Gathers}
use Rattle.jwe.specs.Answers.{Holding}
use Rattle.jwe.specs.Answers.{Result}
use Rattle.jwe.proofs.RecipientRows.{asked_at}
use Rattle.jwe.proofs.OwnHeaders.{laid_entries, gathered, gathered_room, gathered_front, gathered_printed, gathered_kept}
use Rattle.jwe.proofs.JsonOrder.{json_rest}
use Rattle.jwe.proofs.Answering.{answered_accepted}
use Rattle.jwe.proofs.Handing.{judging}

-- A refusal, by its number; and that of a stage, handed up.
module _ (message : List ℕ) (order : List Test) (h : Held) (r : Holding) {n : ℕ} (fails : first order ≡ n) (some : 0 < n)
    (text table of own counts : List ℕ) where
  pub holds_refused : r.number ≡ n → HoldsBy message order h r text table of own counts
  holds_refused is = record { number = is ∙ sym fails; holds = λ z. absurd (omega (arith, z, fails, some)) }

  pub holds_handed : (stage : Stage) → r.number ≡ refused_by stage → stage ≡ Refused n →
      HoldsBy message order h r text table of own counts
  holds_handed stage up told = holds_refused (up ∙ ap refused_by told)

-- Of each recipient, where the own headers have been collected.
pub shares : (message : List ℕ) (t : Top) (number : ℕ) (of own counts : List ℕ) → Owned number message of own counts →
    (n : ℕ) → n < number → HoldsShare message ((held_of message t (recipients_of number of)).share n) of own counts n
shares message t number of own counts owned n below =
    let o = owned n below in
    let is = sym (asked_at number n of below) in
    record {
      key = ap (λ (r : Recipient). r.key) is;
      few = o.few;
      counted = o.counted ∙ ap (λ (r : Recipient). length (own_entries message r)) is;
      laid = o.entries ∙ ap (λ (r : Recipient). flat message (own_entries message r)) is;
      entries = laid_entries message own counts _ n o ∙ ap (own_entries message) is;
    }

-- The parameters of a recipient, its own ones copied behind those of all.
pub behind : (message : List ℕ) (h : Held) (of own counts : List ℕ) (i front n : ℕ) (table last : List ℕ) →
    StandIn (read_texts h.header message) message (h.share i).own → HoldsShare message (h.share i) of own counts i →
    HoldsCommon message h front table → length table ≡ recipient_table → n ≡ front + get_or counts i 0 →
    last ≡ written (front * width) (take (get_or counts i 0 * width) (drop (i * header_table) own)) table →
    Gathers message h i front n last
behind message h of own counts i front n table last stands x common long count left =
    let its = (h.share i).own in
    let ts = read_texts h.header message in
    let o : LaidAt message its own counts i = record { few = x.few; counted = x.counted; entries = x.laid } in
    let room : front * width + header_table ≤ length table = omega (arith, long, common.few) in
    record {
      common = record {
        few = common.few;
        entries = gathered_front message own counts its i front n table last o room count left ∙ common.entries;
        printed = gathered_kept message own counts its i front n table last o room count left ts common.printed;
      };
      few = gathered_room message own counts its i front n table last o room count left;
      entries = gathered message own counts its i front n table last o room count left
          ∙ ap (λ (l : List Entry). l ++ its) common.entries;
      printed = gathered_printed message own counts its i front n table last o room count left ts common.printed stands;
    }

-- The own parameters stand in the message.

json_stands : (message : List ℕ) (n : ℕ) → StandIn (read_texts (json_held message).header message) message ((json_held message).share n).own
unfolding own_entries header_entries
json_stands message n =
    let r = asked (recipients_in message (top_entries message)) n in
    entries_stand registered (read_texts (json_held message).header message) message 2 (members_of message r.header) refl

pub held_stands : (message : List ℕ) (n : ℕ) → StandIn (read_texts (held message).header message) message ((held message).share n).own
unfolding held
held_stands message n = cases (opens_object message)
  where
    cases : (b : Bool) →
        let h = cond b (json_held message) (compact_held message) in
        StandIn (read_texts h.header message) message (h.share n).own
    cases true = json_stands message n
    cases false = tt

-- What `gather` answers and leaves, over what `hold` leaves; `before` is its table before, which still begins with the parameters of all.
module _ (message : List ℕ) (r : Holding) (of own counts : List ℕ) (i n : ℕ) (before last : List ℕ) where
  abbrev Left : Type 0
  Left = last ≡ written (r.common * width) (take (get_or counts i 0 * width) (drop (i * header_table) own)) before

  pub gathers_json : HoldsShare message ((json_held message).share i) of own counts i →
      HoldsCommon message (json_held message) r.common before → length before ≡ recipient_table →
      n ≡ r.common + get_or counts i 0 → Left → Gathers message (json_held message) i r.common n last
  gathers_json x common long count left =
      behind message (json_held message) of own counts i r.common n before last (json_stands message i) x common long count left

  pub gathers : HoldsShare message ((held message).share i) of own counts i →
      HoldsCommon message (held message) r.common before → length before ≡ recipient_table →
      n ≡ r.common + get_or counts i 0 → Left → Gathers message (held message) i r.common n last
  gathers x common long count left =
      behind message (held message) of own counts i r.common n before last (held_stands message i) x common long count left

-- Of the message, by what comes behind its top level and its elements.
pub holds_json : (message : List ℕ) (known : List (List ℕ)) → first (top_order message) ≡ 0 →
    first (elements_order message (top_entries message)) ≡ 0 → any_misspelled message (top_entries message) ≡ false →
    (r : Holding) (t : Top) (rs : List Recipient) (text table of own counts : List ℕ) → t ≡ top_of (top_entries message) →
    rs ≡ recipients_in message (top_entries message) →
    HoldsBy message (json_later known message t rs 0) (held_of message t rs) r text table of own counts →
    HoldsBy message (json_order message known 0) (json_held message) r text table of own counts
holds_json message known top elements sound r t rs text table of own counts e f h =
    let by : Top → List Recipient → Type 0 =
    λ u us. HoldsBy message (json_later known message u us 0) (held_of message u us) r text table of own counts in
    let k = subst (by (top_of (top_entries message))) f (subst (λ (u : Top). by u rs) e h) in
    let same = json_rest message known 0 top elements sound in
    record { number = k.number ∙ sym same; holds = λ z. k.holds (sym same ∙ z) }

-- By the form.
pub holds_as : (message : List ℕ) (known : List (List ℕ)) (b : Bool) → opens_object message ≡ b → (r : Holding)
    (text table of own counts : List ℕ) →
    HoldsBy message (cond b (json_order message known 0) (compact_order message known 0))
    (cond b (json_held message) (compact_held message)) r text table of own counts →
    HoldsBy message (judging message known 0) (held message) r text table of own counts
unfolding held
holds_as message known b e r text table of own counts h =
    subst
    (λ (x : Bool).
    HoldsBy message (cond x (json_order message known 0) (compact_order message known 0))
    (cond x (json_held message) (compact_held message)) r text table of own counts)
    (sym e) h

-- The one recipient of a compact message: its key's place is put into the table, and it has no parameters of its own.
pub sole_share : (message : List ℕ) (q : Place) (of own counts : List ℕ) (start size : ℕ) → 3 ≤ length of → 1 ≤ length counts →
    start ≡ q.start → size ≡ q.size → (n : ℕ) → n < 1 →
    HoldsShare message (record { key = q; own = [] }) (set (set of 1 start) 2 size) own (set counts 0 0) n
unfolding flat entries_of
sole_share message q of own counts start size three one e f zero below =
    let none : get_or (set counts 0 0) 0 0 ≡ 0 = get_or-set_same counts 0 0 0 (omega arith) in
    let first : get_or (set (set of 1 start) 2 size) 1 0 ≡ start =
    get_or-set_other (set of 1 start) 2 1 size 0 (λ (z : ◌≡◌ {A = ℕ} 1 2). omega (arith, z))
    ∙ get_or-set_same of 1 start 0 (omega arith) in
    let second : get_or (set (set of 1 start) 2 size) 2 0 ≡ size =
    get_or-set_same (set of 1 start) 2 size 0 (omega (arith, length-set of 1 start)) in
    record {
      key = ap₂ (λ (a b : ℕ). record { start = a; size = b }) (first ∙ e) (second ∙ f);
      few = omega (arith, none);
      counted = none;
      laid = ap (λ (k : ℕ). take (k * width) (drop (0 * header_table) own)) none;
      entries = ap (λ (k : ℕ). entries_of k (drop (0 * header_table) own)) none;
    }
sole_share message q of own counts start size three one e f (suc n) below = absurd (omega arith)

-- The decoded header is as long as it is said to be.
pub header_size_lem : (message : List ℕ) (h : Held) (x : Holding) (text table of own counts : List ℕ) → length text ≡ header_room →
    Holds message h x text table of own counts → x.header ≡ length h.header
header_size_lem message h x text table of own counts long holds =
    sym (length-take-le x.header text (omega (arith, long, holds.fits))) ∙ ap length holds.header

-- What is handed out for a recipient, of what is held.
pub judges_held : (message : List ℕ) (order : List Test) (h : Held) (i : ℕ) (o : Outcome) → outcome_for h i ≡ o →
    first order ≡ 0 → (x : Holding) (r : Result) → numbers r ≡ accepted message (outcome_for h i) →
    (text₀ text table₀ table last of own counts : List ℕ) → length text ≡ header_room → length text ≡ length text₀ →
    length last ≡ length table₀ → Holds message h x text table of own counts → (n : ℕ) →
    Gathers message h i x.common n last → Judges message order o r text₀ text table₀ last
judges_held message order h i o is none x r answers text₀ text table₀ table last of own counts long same_text_lem same-table holds n g =
    let size = header_size_lem message h x text table of own counts long holds in
    let many : n ≡ length (h.common ++ (h.share i).own) = sym (entries_length n last) ∙ ap length g.entries in
    subst (λ (p : Outcome). Judges message order p r text₀ text table₀ last) is (record {
      answers = answers ∙ answered_accepted message (outcome_for h i) none;
      same_text = same_text_lem;
      same_table = same-table;
      header = λ z. ap (λ (k : ℕ). take k text) (sym size) ∙ holds.header;
      entries = λ z. (
        same-table,
        (omega (arith, many, g.few), ap (λ (k : ℕ). entries_of k last) (sym many) ∙ g.entries),
      );
      printed = λ z. subst (λ (k : ℕ). Printed (read_texts h.header message) k last) many g.printed;
    })
