-- What `read` answers: 1 to 3, then what judging answers, and what the lent outputs hold afterwards.
use mathlib.Core.Path.{◌≡◌, ap, ap₂, sym, subst, ◌∙◌}
use mathlib.Core.Bool.{Bool, true, false, not, ◌||◌, cond}
use mathlib.Core.List.{List}
use Prim.Native.Nat.{ℕ, ◌*◌, ◌≤◌, ◌<◌}
use native.Mathlib.Omega.{arith}
use lib.ListN.{length, take, get_or, length-take}
use lib.Dec.{ltb}
use borrow.Author.Tests.{lt-ltb, le-ltb, eq-eqb, ne_eqb}
use Rattle.prelude.specs.Buffer.{written}
use Rattle.names.specs.Names.{names, sound}
use Rattle.grammar.specs.Reader.{opens_object}
use Rattle.rows.specs.Tables.{listed, entries_of, width}
use Rattle.prelude.specs.Refusals.{Test, ◌if◌, first}
use Rattle.prelude.proofs.Refusals.{first_fails, first_passes}
use Rattle.prelude.specs.Limits.{longest, header_room, list_room}
use Rattle.jwe.specs.Compact.{compact_order}
use Rattle.jwe.specs.General.{json_order}
use Rattle.jwe.specs.Judge.{Call, Outcome, order, refusal, outcome, accepted, refused}
use Rattle.jwe.specs.Inner.Outcomes.{compact_outcome, json_outcome}
use Rattle.jwe.specs.Judge.{result_of, header_after, list_after}
use Rattle.jwe.specs.Answers.{numbers}
use Rattle.jwe.specs.Inner.Stages.{table_room, Judges}
use Rattle.jwe.specs.Answers.{Result}
use Rattle.jwe.proofs.Outcomes.{by_form}

-- The refusals from 4 on
abbrev pub judging : List ℕ → List (List ℕ) → ℕ → List Test
judging message known recipient =
    cond (opens_object message) (json_order message known recipient) (compact_order message known recipient)

-- A path of the two, as the message opens.
pub judges_as : (message : List ℕ) (known : List (List ℕ)) (recipient : ℕ) (b : Bool) → opens_object message ≡ b →
    (r : Result) (text₀ text table₀ table : List ℕ) →
    Judges message (cond b (json_order message known recipient) (compact_order message known recipient))
    (cond b (json_outcome message recipient) (compact_outcome message)) r text₀ text table₀ table →
    Judges message (judging message known recipient) (outcome message recipient) r text₀ text table₀ table
judges_as message known recipient b e r text₀ text table₀ table h =
    by_form message recipient
    (λ (o : Outcome). Judges message (judging message known recipient) o r text₀ text table₀ table)
    (subst
    (λ (x : Bool).
    Judges message (cond x (json_order message known recipient) (compact_order message known recipient))
    (cond x (json_outcome message recipient) (compact_outcome message)) r text₀ text table₀ table)
    (sym e) h)

-- 1 to 3

module _ (c : Call) where
  abbrev lent : Test
  lent = 1 if (ltb c.header_lent header_room || ltb c.list_lent list_room)

  abbrev long : Test
  long = 2 if ltb longest (length c.message)

  pub refusal_header : c.header_lent < 4096 → refusal c ≡ 1
  unfolding refusal order
  refusal_header h = first_fails lent _ (ap (λ (t : Bool). t || ltb c.list_lent list_room) (lt-ltb c.header_lent 4096 h))

  pub refusal_list : 4096 ≤ c.header_lent → c.list_lent < 576 → refusal c ≡ 1
  unfolding refusal order
  refusal_list h l = first_fails lent _ (ap₂ ◌||◌ (le-ltb c.header_lent 4096 h) (lt-ltb c.list_lent 576 l))

  module _ (h : 4096 ≤ c.header_lent) (l : 576 ≤ c.list_lent) where
    room : (ltb c.header_lent header_room || ltb c.list_lent list_room) ≡ false
    room = ap₂ ◌||◌ (le-ltb c.header_lent 4096 h) (le-ltb c.list_lent 576 l)

    pub refusal_long : longest < length c.message → refusal c ≡ 2
    unfolding refusal order
    refusal_long m = first_passes lent _ room ∙ first_fails long _ (lt-ltb longest (length c.message) m)

    module _ (m : length c.message ≤ longest) where
      pub refusal_names : sound c.known ≡ false → refusal c ≡ 3
      unfolding refusal order
      refusal_names s =
          first_passes lent _ room
          ∙ first_passes long _ (le-ltb longest (length c.message) m)
          ∙ first_fails (3 if not (sound c.known)) _ (ap not s)

      pub refusal_judged : sound c.known ≡ true →
          refusal c ≡ first (judging c.message (names c.known) c.recipient)
      unfolding refusal order
      refusal_judged s =
          first_passes lent _ room
          ∙ first_passes long _ (le-ltb longest (length c.message) m)
          ∙ first_passes (3 if not (sound c.known)) _ (ap not s)

-- What the outputs hold afterwards

module _ (c : Call) (header list : List ℕ) where
  -- the three promises, of an answer and of what the outputs hold then
  abbrev pub Answers : Result → List ℕ → List ℕ → Type 0
  Answers r header' list' = (numbers r ≡ result_of c) × ((header' ≡ header_after c header) × (list' ≡ list_after c list))

  abbrev handed : Outcome
  handed = outcome c.message c.recipient

  pub answers_refused : (n : ℕ) → refusal c ≡ n → 0 < n → (r : Result) → numbers r ≡ refused n → Answers r header list
  unfolding result_of header_after list_after
  answers_refused n e h r f =
      let k = refusal c in
      let no = ne_eqb k 0 (λ z. omega (arith, z, e, h)) in (
        f ∙ ap refused (sym e) ∙ sym (ap (λ (t : Bool). cond t (accepted c.message handed) (refused k)) no),
        (
          sym (ap (λ (t : Bool). cond t (written 0 handed.header header) header) no),
          sym (ap (λ (t : Bool). cond t (written 0 (listed handed.entries) list) list) no),
        ),
      )

  pub answers_accepted : refusal c ≡ 0 → (r : Result) → numbers r ≡ accepted c.message handed →
      (header' list' : List ℕ) → header' ≡ written 0 handed.header header →
      list' ≡ written 0 (listed handed.entries) list → Answers r header' list'
  unfolding result_of header_after list_after
  answers_accepted e r f header' list' g h =
      let k = refusal c in
      let yes = eq-eqb k 0 e in (
        f ∙ sym (ap (λ (t : Bool). cond t (accepted c.message handed) (refused k)) yes),
        (
          g ∙ sym (ap (λ (t : Bool). cond t (written 0 handed.header header) header) yes),
          h ∙ sym (ap (λ (t : Bool). cond t (written 0 (listed handed.entries) list) list) yes),
        ),
      )

-- The largest room for entries.
pub room_most : (json : Bool) → table_room json ≤ 768
room_most true = omega arith
room_most false = omega arith

-- What is known of an accepted message: what is written fits, and stands where it is read.
pub record Stands (x : Outcome) (text table : List ℕ) (n count : ℕ) : Type 0 where
  pub size : n ≡ length x.header
  pub front : take n text ≡ x.header
  pub within : length x.header ≤ 4096
  pub entries : entries_of count table ≡ x.entries
  pub few : count * width ≤ length table

taken_most : (xs text : List ℕ) → take (length xs) text ≡ xs → length xs ≤ length text
taken_most xs text e = omega (arith, length-take (length xs) text, ap length e)

pub stands : (message : List ℕ) (x : Outcome) (r : Result) (text table : List ℕ) →
    numbers r ≡ accepted message x → take (length x.header) text ≡ x.header →
    (length x.entries * width ≤ length table) × (entries_of (length x.entries) table ≡ x.entries) →
    length text ≡ 4096 → Stands x text table r.header r.parameters
unfolding accepted
stands message x r text table e f g room =
    let size : r.header ≡ length x.header = ap (λ (l : List ℕ). get_or l 16 0) e in
    let count : r.parameters ≡ length x.entries = ap (λ (l : List ℕ). get_or l 17 0) e in
    record {
      size = size;
      front = ap (λ (n : ℕ). take n text) size ∙ f;
      within = omega (arith, taken_most x.header text f, room);
      entries = ap (λ (n : ℕ). entries_of n table) count ∙ g.1;
      few = omega (arith, count, g.0);
    }
