-- Look's scan beside the walk. Where the walk meets only the seven ids before its first FILEPASS, the scan of the stream's first bytes goes from header to header as
-- the walk does, and comes to that FILEPASS, if its header lies within them.
-- Assumes nothing.
use Rattle.std.specs.Prelude.{None, Some, Option}
use mathlib.Core.Path.{◌≡◌, refl, sym, ap, ◌∙◌}
use mathlib.Core.Bool.{Bool, true, false}
use mathlib.Core.List.{List}
use Prim.Native.Nat.{ℕ, ◌+◌, ◌≤◌, ◌<◌}
use native.Mathlib.Omega.{arith}
use borrow.Author.Tests.{eqb-true, le-leb, lt-leb}
use lib.Dec.{leb}
use lib.ListN.{length, take, length-take}
use Rattle.laws.specs.Choice.{pick}
use Rattle.laws.proofs.Choice.{stop, skip, either, same_or}
use Rattle.binary_office.specs.declared.Step.{Step}
use Rattle.binary_office.specs.declared.Step.TheVariants as step
use Rattle.binary_office.specs.declared.Finding.{Finding}
use Rattle.binary_office.specs.declared.Finding.TheVariants.{Filepass, Unreadable}
use Rattle.binary_office.specs.Fields.{le16_at}
use Rattle.binary_office.specs.declared.BiffRecord.{BiffRecord}
use Rattle.binary_office.specs.Walk.{step_at, walk_at, walk, never_encrypted}
use Rattle.binary_office.specs.Look.{scan_at, found, capped}
use Rattle.binary_office.proofs.Headers.{le16_first, le16_beyond}
use Rattle.binary_office.proofs.Walks.{record_there, record_within}
use Rattle.binary_office.proofs.Along.{records_end_lem, records_fault, along}
use Rattle.binary_office.proofs.Bodies.{impossible}
use Rattle.binary_office.proofs.Locks.{scan_no_id, scan_no_len, scan_found, scan_past, scan_on, found_scan}
use Rattle.file_params.specs.Questions.{filepass, other_id, starts_bof}
use Rattle.survey.proofs.First.{starts, not_bof}
use Rattle.survey.proofs.Records.{filepass_here, filepass_on, other_here, other_on_lem, no_filepass, located}

-- the first `most` bytes of a stream
module _ (s : List ℕ) (most : ℕ) where
  abbrev pub book : List ℕ
  book = take most s

  -- what a scan finds that comes to a FILEPASS of the walk, or ends before it
  abbrev pub seen : BiffRecord → Finding
  seen r = pick (leb (r.at + 4) most) (Filepass (r.at + 4) r.len) Unreadable

  pub seen_there : (r : BiffRecord) → r.at + 4 ≤ most → Filepass (r.at + 4) r.len ≡ seen r
  seen_there r h = stop _ (le-leb (r.at + 4) most h)

  pub seen_not : (r : BiffRecord) → most < r.at + 4 → Unreadable ≡ seen r
  seen_not r h = skip _ (lt-leb (r.at + 4) most h) refl

  -- a header that is cut
  scan_cut : (at : ℕ) → most < at + 4 → Unreadable ≡ scan_at book at
  scan_cut at h = by_id_lem (le16_at book at) refl
    where
      by_id_lem : (w : (Option ℕ)) → w ≡ le16_at book at → Unreadable ≡ scan_at book at
      by_id_lem None e = scan_no_id book at e
      by_id_lem (Some id) e = scan_no_len book at id e (le16_beyond s most (at + 2) (omega arith))

  -- a record of the walk whose header is not
  module _ (at id len : ℕ) (e : step_at s at ≡ step.Record id len) where
    id_there : at + 4 ≤ most → Some id ≡ le16_at book at
    id_there h = (record_there s at id len e).id_there ∙ sym (le16_first s most at (omega arith))

    len_there : at + 4 ≤ most → Some len ≡ le16_at book (at + 2)
    len_there h = (record_there s at id len e).len_there ∙ sym (le16_first s most (at + 2) (omega arith))

    abbrev here : BiffRecord
    here = record { at = at; id = id; len = len }

    at_filepass : id ≡ 0x002F → scan_at book at ≡ seen here
    at_filepass q =
        either (at + 4) most
        (λ h. sym (scan_found book at id len (id_there h) (len_there h) q) ∙ seen_there here h)
        (λ h. sym (scan_cut at h) ∙ seen_not here h)

    -- one of the seven, and the FILEPASS behind it
    module _ (other : id ≡ 0x002F → ⊥) (seven : never_encrypted id ≡ true) (r : BiffRecord) (behind : at + 4 + len ≤ r.at) where
      ends_before : most < at + 4 + len → scan_at book at ≡ seen r
      ends_before h =
          let size = length-take most s in
          either (at + 4) most
          (λ k. sym (scan_past book at id len (id_there k) (len_there k) other seven (omega arith)))
          (λ k. sym (scan_cut at k))
          ∙ seen_not r (omega arith)

      goes_on : at + 4 + len ≤ most → scan_at book (at + 4 + len) ≡ seen r → scan_at book at ≡ seen r
      goes_on h again =
          let size = length-take most s in
          let within = record_within s at id len e in
          sym (scan_on book at id len (id_there (omega arith)) (len_there (omega arith)) other seven (omega arith)) ∙ again

  pub scanned : (at : ℕ) → at ≤ length s → (r : BiffRecord) → filepass (walk_at s at).records ≡ Some r → other_id (walk_at s at).records ≡ None
      → scan_at book at ≡ seen r
  scanned =
      along s (λ (at : ℕ). (r : BiffRecord) → filepass (walk_at s at).records ≡ Some r → other_id (walk_at s at).records ≡ None → scan_at book at ≡ seen r)
      (λ at e r f o. none_there at r (no_filepass (walk_at s at).records (records_end_lem s at e)) f)
      (λ at p e r f o. none_there at r (no_filepass (walk_at s at).records (records_fault s at p e)) f)
      (λ at id len e again r f o.
      same_or id 0x002F
      (λ q. it_is at id len r (sym (filepass_here s at id len e q) ∙ f) (at_filepass at id len e q))
      (λ q. by_seven at id len e q r (sym (filepass_on s at id len e q) ∙ f) o again (never_encrypted id) refl))
    where
      none_there : (at : ℕ) (r : BiffRecord) → filepass (walk_at s at).records ≡ None → filepass (walk_at s at).records ≡ Some r → scan_at book at ≡ seen r
      none_there at r e f = let z : None ≡ Some r = sym e ∙ f in impossible (cc)

      it_is : (at id len : ℕ) (r : BiffRecord) → Some (record { at = at; id = id; len = len }) ≡ Some r
          → scan_at book at ≡ seen (record { at = at; id = id; len = len }) → scan_at book at ≡ seen r
      it_is at id len r f g = let z : record { at = at; id = id; len = len } ≡ r = cc in g ∙ ap seen z

      by_seven : (at id len : ℕ) (e : step_at s at ≡ step.Record id len) → (id ≡ 0x002F → ⊥) → (r : BiffRecord) → filepass (walk_at s (at + 4 + len)).records ≡ Some r
          → other_id (walk_at s at).records ≡ None
          → ((r : BiffRecord) → filepass (walk_at s (at + 4 + len)).records ≡ Some r → other_id (walk_at s (at + 4 + len)).records ≡ None
          → scan_at book (at + 4 + len) ≡ seen r)
          → (t : Bool) → never_encrypted id ≡ t → scan_at book at ≡ seen r
      by_seven at id len e q r f o again false t = let z : Some id ≡ None = sym (other_here s at id len e q t) ∙ o in impossible (cc)
      by_seven at id len e q r f o again true t =
          let behind = (located s (at + 4 + len) (record_within s at id len e) r f).from in
          either (at + 4 + len) most
          (λ h. goes_on at id len e q t r behind h (again r f (sym (other_on_lem s at id len e q t) ∙ o)))
          (λ h. ends_before at id len e q t r behind h)

-- the first record, where it is a BOF
bof_first : (s : List ℕ) → starts_bof (walk s).records ≡ true → Some 0x0809 ≡ le16_at s 0
bof_first s b = by_step (step_at s 0) refl
  where
    not_there : starts_bof (walk s).records ≡ false → Some 0x0809 ≡ le16_at s 0
    not_there f = let z : true ≡ false = sym b ∙ f in impossible (cc)

    by_step : (w : Step) → step_at s 0 ≡ w → Some 0x0809 ≡ le16_at s 0
    by_step step.End e = not_there (not_bof (walk s).records (records_end_lem s 0 e))
    by_step (step.Fault p) e = not_there (not_bof (walk s).records (records_fault s 0 p e))
    by_step (step.Record id len) e =
        ap Some (sym (eqb-true id 0x0809 (sym (starts s 0 id len e) ∙ b))) ∙ (record_there s 0 id len e).id_there

-- what a look finds, of a stream whose first FILEPASS has only the seven before it
pub looked : (s : List ℕ) (r : BiffRecord) → starts_bof (walk s).records ≡ true → filepass (walk s).records ≡ Some r → other_id (walk s).records ≡ None
    → found (capped s) ≡ seen s 1048576 r
looked s r b f o =
    sym (found_scan (capped s) 0x0809 (bof_first s b ∙ sym (le16_first s 1048576 0 (omega arith))) (seen s 1048576 r) refl
    (sym (scanned s 1048576 0 (omega arith) r f o)))
