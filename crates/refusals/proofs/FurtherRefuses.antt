-- What is given to the further requests is refused as the tables of their numbers say.
use mathlib.Core.Path.{◌≡◌, refl, ap, sym, subst}
use mathlib.Core.Bool.{Bool, true, false, true≢false}
use mathlib.Core.Logic.{◌↔◌}
use mathlib.Core.List.{List, [], ◌∷◌}
use Prim.Native.Nat.{ℕ, ◌≤◌}
use native.Mathlib.Omega.{arith}
use lib.ListN.{length}
use lib.Dec.{eqb, ltb}
use borrow.Author.Tests.{ltb-false, le-ltb, eqb-true}
use Rattle.rows.specs.Rows.{one_text}
use Rattle.prelude.specs.Ascii.{ascii}
use Rattle.prelude.specs.Limits.{longest}
use Rattle.prelude.specs.Refusals.{first}
use Rattle.base64url.specs.Base64url.{decoded}
use Rattle.base64url.specs.Fault.{Fault, none, at, fault}
use Rattle.base64url.specs.Answers.{of_fault, decode_order, decode_refusal}
use Rattle.base64url.proofs.Laws.{accepted_exactly, spelled_once}
use Rattle.names.specs.Names.{sound}
use Rattle.prelude.specs.Any.{any}
use Rattle.jose.specs.Registered.{registered}
use Rattle.jose.specs.HeaderRules.{critical}
use Rattle.headers.specs.Headers.{text_order, outermost, protected_entries, object_order}
use Rattle.walk.specs.Walk.{walk_order}
use Rattle.aad.specs.Aad.{aad_text, aad_order, aad_refusal}
use Rattle.jwe_write.specs.Write.{Raw, compact_text, write_order, write_refusal, raw_sizes}
use Rattle.meets.specs.Members.{members_of}
use Rattle.meets.specs.Rules.{EveryNamed, Critical}
use Rattle.meets.specs.Meets.{Protected}
use Rattle.meets.proofs.OneForOne.{zip_into}
use Rattle.meets.proofs.Deciding.{FalseWhere, not_where}
use Rattle.meets.proofs.Rows.{unread_decides, outermost_stand}
use Rattle.meets.proofs.Entries.{EntryStands, Seen, entry_seen, entries_stand}
use Rattle.meets.proofs.NamesApart.{few_decided, distinct_decided}
use Rattle.meets.proofs.Parameters.{required_decided, kinds_decided, listed_decided}
use Rattle.meets.proofs.CriticalNames.{critical_decided}
use Rattle.meets.proofs.KeyFits.{key_decided}
use Rattle.meets.proofs.CompactHeader.{protected_stands}
use Rattle.meets.proofs.Accepted.{list_decided, list_names}
use Rattle.refusals.specs.Table.{Refuses}
use Rattle.refusals.specs.Numbers.{Encoding}
use Rattle.refusals.specs.Further.{walk_table, decode_table, aad_table, write_table}
use Rattle.refusals.proofs.Steps.{step, last, exactly}

-- The header walk

walk_refuses : (text : List ℕ) → Refuses (walk_table text) (first (walk_order text))
unfolding walk_table walk_order object_order protected_entries
walk_refuses text =
    step 2 _ _ _ (ltb-false longest (length text), le-ltb longest (length text)) λ size.
    step 7 _ _ _ (unread_decides text) λ r.
    let ms = members_of r.text.value in
    let z = entries_stand registered (one_text text) 0 ms (outermost text) (outermost_stand text r) in
    step 8 _ _ _ (few_decided registered text 0 ms (protected_entries text) z) λ few.
    step 9 _ _ _ (distinct_decided registered text 0 ms (protected_entries text) z) λ once.
    last

pub walk_refused_exactly : (text : List ℕ) (k : ℕ) → (first (walk_order text) ≡ k) ↔ Refuses (walk_table text) k
walk_refused_exactly text = exactly (walk_table text) (first (walk_order text)) (walk_refuses text)

-- Decoding

module _ (text : List ℕ) (room : ℕ) where
  faultless : FalseWhere (of_fault (fault text) false true) (Encoding text)
  faultless = ((λ e. (accepted_exactly text).0 (none_where (fault text) e)), (λ w. ap sound? ((accepted_exactly text).1 w)))
    where
      sound? : Fault → Bool
      sound? f = of_fault f false true

      none_where : (f : Fault) → of_fault f false true ≡ false → f ≡ none
      none_where none e = refl
      none_where (at place) e = absurd (true≢false e)

  decode_refuses : Refuses (decode_table text room) (decode_refusal text room)
  unfolding decode_table decode_refusal decode_order
  decode_refuses =
      step 5 _ _ _ faultless λ e.
      let same = spelled_once text e.0 e.1 e.2 in
      step 1 _ _ _
      (subst (λ (xs : List ℕ). FalseWhere (ltb room (length (decoded text))) (length xs ≤ room)) (sym same)
      (ltb-false room (length (decoded text)), le-ltb room (length (decoded text)))) λ lent.
      last

  pub decode_refused_exactly : (k : ℕ) → (decode_refusal text room ≡ k) ↔ Refuses (decode_table text room) k
  decode_refused_exactly = exactly (decode_table text room) (decode_refusal text room) decode_refuses

-- The AAD

module _ (header aad : List ℕ) (room : ℕ) where
  aad_refuses : Refuses (aad_table header aad room) (aad_refusal header aad room)
  unfolding aad_table aad_refusal aad_order
  aad_refuses =
      step 1 _ _ _ (ltb-false room (length (aad_text header aad)), le-ltb room (length (aad_text header aad))) λ lent.
      last

  pub aad_refused_exactly : (k : ℕ) → (aad_refusal header aad room ≡ k) ↔ Refuses (aad_table header aad room) k
  aad_refused_exactly = exactly (aad_table header aad room) (aad_refusal header aad room) aad_refuses

-- The compact writer

none_where : (key : List ℕ) → (eqb (length key) 0 ≡ true) ↔ (key ≡ [])
none_where [] = ((λ e. refl), (λ e. refl))
none_where (x ∷ key) = (
  (λ e. let z = eqb-true (length (x ∷ key)) 0 e in absurd (omega arith)),
  (λ e. absurd (omega (arith, ap length e))),
)

module _ (c : Raw) (known : List ℕ) (room : ℕ) where
  write_refuses : Refuses (write_table c known room) (write_refusal c known room)
  unfolding write_table write_refusal write_order text_order object_order
  write_refuses =
      let header = c.header in
      let es = protected_entries header in
      step 3 _ _ _ (not_where (sound known) (list_decided known)) λ k.
      step 6 _ _ _ (ltb-false 4096 (length header), le-ltb 4096 (length header)) λ short.
      step 7 _ _ _ (unread_decides header) λ r.
      let ms = members_of r.text.value in
      let p : Protected header = record { short = short; reading = r } in
      let z = protected_stands header header p in
      let seen = zip_into (EntryStands registered (one_text header) 0) (Seen registered (one_text header))
      (entry_seen registered (one_text header) 0) ms es z in
      step 8 _ _ _ (few_decided registered header 0 ms es z) λ few.
      step 9 _ _ _ (distinct_decided registered header 0 ms es z) λ once.
      step 13 _ _ _ (required_decided (one_text header) ms es seen) λ there.
      step 14 _ _ _ (kinds_decided (one_text header) ms es seen) λ kinds.
      step 15 _ _ _ (listed_decided (one_text header) ms es seen kinds.0) λ listed.
      step 17 _ _ _
      (subst (λ (ns : List (List ℕ)).
      FalseWhere (any (critical ns (one_text header) es) es) (EveryNamed (ascii "crit") (Critical k.names ms) ms))
      (sym (list_names known k)) (critical_decided k.names (one_text header) ms es seen kinds.2)) λ crit.
      step 18 _ _ _
      (key_decided (one_text header) ms es c.key (raw_sizes c) seen once there.0 listed.0
      (none_where c.key)) λ fits.
      step 2 _ _ _ (ltb-false longest (length (compact_text c)), le-ltb longest (length (compact_text c))) λ size.
      step 1 _ _ _ (ltb-false room (length (compact_text c)), le-ltb room (length (compact_text c))) λ lent.
      last

  pub write_refused_exactly : (k : ℕ) → (write_refusal c known room ≡ k) ↔ Refuses (write_table c known room) k
  write_refused_exactly = exactly (write_table c known room) (write_refusal c known room) write_refuses
