-- Every parameter that a message holds reads where it stands: it is the row of a member that the reader found.
use mathlib.Core.Path.{◌≡◌, refl, sym, subst}
use mathlib.Core.Bool.{Bool, true, false, cond}
use mathlib.Core.List.{List, [], ◌∷◌, ◌++◌}
use Prim.Native.Nat.{ℕ, zero, suc}
use native.Mathlib.Omega.{arith}
use lib.Dec.{eqb}
use Rattle.prelude.specs.Limits.{levels}
use Rattle.grammar.specs.Places.{Member}
use Rattle.grammar.specs.Bounds.{Every}
use Rattle.grammar.specs.Reader.{opens_object, skip_space, members_at}
use Rattle.json_read.proofs.RowValues.{members_read_lem}
use Rattle.json_read.proofs.RowValues as values
use Rattle.json_read.proofs.Within.{value_within}
use Rattle.rows.specs.Rows.{Entry, Texts, read_texts, text_of, entry_of, entries_in}
use Rattle.headers.specs.Headers.{outermost, protected_entries, header_text, members_of, header_entries}
use Rattle.jose.specs.Registered.{registered}
use Rattle.shape.specs.Recipients.{top_of, top_entries, recipients_in}
use Rattle.jwe.specs.General.{shared_entries, own_entries}
use Rattle.jwe.specs.Judge.{Held, json_held, compact_held, held, asked}
use Rattle.same.specs.Inner.Walking.{Reads}
use Rattle.matching.specs.Matching.{value_of}
use Rattle.matching.specs.Inner.Places.{nth, EntryReads, EachReads}
use Rattle.matching.proofs.Partners.{some_is}

module _ (ts : Texts) where
  abbrev Each : List Entry → Type 0
  Each es = Every (EntryReads ts) es

  each_append : (es fs : List Entry) → Each es → Each fs → Each (es ++ fs)
  each_append [] fs h k = k
  each_append (e ∷ es) fs h k = (h.0, each_append es fs h.1 k)

  -- By their numbers.
  pub each_reads : (es : List Entry) → Each es → EachReads ts es
  unfolding nth
  each_reads [] h k e p = let z : ◌≡◌ {A = ℕ} 0 1 = cc in absurd (omega arith)
  each_reads (x ∷ es) h zero e p = subst (EntryReads ts) (some_is p) h.0
  each_reads (x ∷ es) h (suc k) e p = each_reads es h.1 k e p

  -- The entries of members that stand in a text.
  members_each : (s : List ℕ) (o : ℕ) → text_of ts o ≡ s → (ms : List Member) →
      Every (λ m. values.Reads levels s m.value_start m.kind) ms → Each (entries_in registered s o ms)
  unfolding entries_in
  members_each s o e [] h = tt
  members_each s o e (m ∷ ms) h =
      let found = value_within levels s m.value_start h.0.end m.kind h.0.is in (
        record {
          reads = subst (λ (x : List ℕ). Reads x (value_of (entry_of registered s o m))) (sym e) (record { end = h.0.end; is = h.0.is });
          kind = omega (arith, found.kind);
        },
        members_each s o e ms h.1,
      )

  protected_each : (header : List ℕ) → text_of ts 0 ≡ header → Each (protected_entries header)
  unfolding protected_entries outermost
  protected_each header e = members_each header 0 e _ (members_read_lem levels header (skip_space header 0))

  header_each : (message : List ℕ) (o start : ℕ) → text_of ts o ≡ message → Each (header_entries message o start)
  unfolding header_entries members_of
  header_each message o start e = cases (eqb start 0)
    where
      cases : (b : Bool) → Each (entries_in registered message o (cond b [] (members_at levels message start)))
      cases true = members_each message o e [] tt
      cases false = members_each message o e _ (members_read_lem levels message start)

module _ (message : List ℕ) where
  abbrev Reading : Held → Type 0
  Reading h =
      Every (EntryReads (read_texts h.header message)) h.common
      × ((n : ℕ) → Every (EntryReads (read_texts h.header message)) (h.share n).own)

  json_each : Reading (json_held message)
  unfolding shared_entries own_entries
  json_each =
      let t = top_of (top_entries message) in
      let ts = read_texts (header_text message t.components.protected) message in (
        each_append ts (protected_entries ts.protected) _ (protected_each ts ts.protected refl) (header_each ts message 1 t.shared refl),
        λ n. header_each ts message 2 (asked (recipients_in message (top_entries message)) n).header refl,
      )

  compact_each : Reading (compact_held message)
  compact_each =
      let h = compact_held message in
      (protected_each (read_texts h.header message) h.header refl, λ n. tt)

  held_each : Reading (held message)
  unfolding held
  held_each = cases (opens_object message)
    where
      cases : (b : Bool) → Reading (cond b (json_held message) (compact_held message))
      cases true = json_each
      cases false = compact_each

  -- The parameters that are all recipients', and all those of a recipient.

  pub common_read : EachReads (read_texts (held message).header message) (held message).common
  common_read = each_reads (read_texts (held message).header message) (held message).common held_each.0

  pub recipient_read : (n : ℕ) →
      EachReads (read_texts (held message).header message) ((held message).common ++ ((held message).share n).own)
  recipient_read n =
      each_reads (read_texts (held message).header message) _
      (each_append (read_texts (held message).header message) (held message).common ((held message).share n).own
      held_each.0 (held_each.1 n))
