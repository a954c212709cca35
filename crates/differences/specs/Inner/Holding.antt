-- A message that has been judged, as the code has it: what `hold` answers and leaves of it.
use Rattle.std.specs.Prelude.{◌≡◌, List, ℕ, ◌*◌, ◌≤◌, ◌<◌, length}
use denote.Struct.Props as plain
use Rattle.prelude.specs.Limits.{most_members, most_recipients}
use Rattle.rows.specs.Tables.{recipient_table}
use Rattle.headers.specs.Answers.{components_of}
use Rattle.shape.specs.Inner.Answers.{recipients_room}
use Rattle.jwe.specs.Judge.{held}
use Rattle.jwe.specs.Inner.Stages.{own_table}
use Rattle.jwe.specs.Inner.Holding.{HoldsShare, HoldsCommon, Gathers}
use Rattle.jwe.specs.declared.Holding.{Holding}

-- Its decoded header, what is answered, and in the tables what each recipient has.
pub record Judges (message header : List ℕ) (x : Holding) (of own counts : List ℕ) : Type 0 where
  pub decoded : header ≡ (held message).header
  pub form : x.form ≡ (held message).form
  pub recipients : x.recipients ≡ (held message).recipients
  pub few : x.recipients ≤ most_recipients
  pub components : components_of x.components ≡ (held message).components
  pub share : (n : ℕ) → n < x.recipients → HoldsShare message ((held message).share n) of own counts n
  pub keys : length of ≡ recipients_room
  pub owned : length own ≡ own_table
  pub counted : length counts ≡ most_recipients

-- That is a plain fact: a judged message keeps it.
pub judges_prop : (message header : List ℕ) (x : Holding) (of own counts : List ℕ) → IsProp (Judges message header x of own counts)
judges_prop message header x of own counts = Prim.hlevel plain.props

-- A table that begins with the n parameters that are all recipients'.
pub record Fronted (message : List ℕ) (n : ℕ) (table : List ℕ) : Type 0 where
  pub front : HoldsCommon message (held message) n table
  pub long : length table ≡ recipient_table

-- One in which those of recipient i have been put behind them: m in all.
pub record Gathered (message : List ℕ) (i n m : ℕ) (table : List ℕ) : Type 0 where
  pub gathers : Gathers message (held message) i n m table
  pub some : n ≤ m
  pub few : m ≤ 3 * most_members
