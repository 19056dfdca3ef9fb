-- What the lines of samples are, one sample after the other.
use Rattle.std.proofs.Common.{◌≡◌, ℕ, zero, suc, ◌+◌, ◌*◌, ◌<◌, ◌≤◌, List, [], ◌∷◌, ◌++◌, length, map, take, drop, Option, Some, None, Result, Ok, Err, IfErr, IfSome, IsErrAnd, inl, inr, refl, sym, ◌∙◌, ap, subst, append_assoc, append-nil, length-drop, drop-drop, arith}
use Rattle.std.proofs.lemmas.Option.{IfSome_then}
use Rattle.std.specs.Io.KnownBytes.{Appends}
use Rattle.std.proofs.Transfers.{starts_with_of_eq, starts_with_trans}
use Rattle.hound_number.specs.{WhereKnown}
use Rattle.hound_sample.specs.{ReadRejection, other_format, misfit, too_wide, unsupported, items_of, Reads, error_of_read}
use Rattle.hound_reader.specs.{ReaderState, meaning_at, rejection_at, GivesItems}
use Rattle.hound_walk.specs.{IsRejection, Readable, Unreadable}
use Rattle.std.specs.List.{flat_map}
use Rattle.hound_walk.specs.declared.cause.Cause.TheVariants as causes
use Rattle.hound_spec.specs.declared.error.Error.{Error}
use Rattle.hound_spec.specs.declared.error.Error.TheVariants as errors
use Rattle.hound_spec.specs.declared.spec.SampleFormat.{SampleFormat}
use Rattle.hound_spec.specs.declared.spec.WavSpec.{WavSpec}
use Rattle.hound_spec.specs.declared.spec.WavSpecEx.{WavSpecEx}
use Rattle.hound_commands.proofs.Outputs.{appends-none, gets-more, gets-none, gets-stopped, gets-then, gets-written}
use Rattle.hound_commands.specs.Commands.{failure_of, ReportsSamples, GetsBeginning, GetsBuffered, AreShowable, Shows, ShowsSamples, ShowsUntil, IsTextUntil, StopsSamples, spec_line, sample_line, sample_lines, show_rejection}
use Rattle.hound_commands.specs.declared.error.CommandError.{CommandError}
use Rattle.hound_commands.specs.declared.error.CommandError.TheVariants.{BadNumber, InputOrOutput, Rejected}

-- one sample more
lines-more : (s : WavSpecEx) (k : ℕ) (xs : List ℕ) → sample_lines s (suc k) xs
    ≡ sample_lines s k xs ++ sample_line s (take s.bytes_per_sample (drop (k * s.bytes_per_sample) xs))
lines-more s zero xs =
    let w = s.bytes_per_sample in
    let none : 0 ≡ 0 * w = omega arith in
    append-nil (sample_line s (take w xs)) ∙ ap (λ n. sample_line s (take w (drop n xs))) none
lines-more s (suc k) xs =
    let w = s.bytes_per_sample in
    let first = sample_line s (take w xs) in
    let on : w + k * w ≡ suc k * w = omega arith in
    ap (λ l. first ++ l) (lines-more s k (drop w xs))
    ∙ ap (λ b. first ++ (sample_lines s k (drop w xs) ++ sample_line s (take w b)))
    (drop-drop (k * w) w xs ∙ ap (λ n. drop n xs) on)
    ∙ sym (append_assoc first (sample_lines s k (drop w xs)) _)

-- So many samples of what was left were read, this is the text of them after `first`, and the others are left.
abbrev pub ReadAs : WavSpecEx → ℕ → Option (List ℕ) → Option (List ℕ) → List ℕ → List ℕ → Type 0
ReadAs s k left now first text = WhereKnown left now (λ xs ys. (ys ≡ drop (k * s.bytes_per_sample) xs)
    × AreShowable s k xs × (text ≡ first ++ sample_lines s k xs))

-- and the output and its buffer got it
abbrev pub Shown : WavSpecEx → ℕ → Option (List ℕ) → Option (List ℕ) → Option (List ℕ) → Option (List ℕ) → List ℕ
    → List ℕ → Type 0
Shown s k left now old new first lines =
    (text : List ℕ) × ReadAs s k left now first text × GetsBuffered old new lines text

none_showable : (s : WavSpecEx) (xs : List ℕ) → AreShowable s 0 xs
none_showable s xs = record { there = omega arith; shown = λ some. absurd (omega arith) }

none_read : (s : WavSpecEx) (left : Option (List ℕ)) (first : List ℕ) → ReadAs s 0 left left first first
none_read s None first = tt
none_read s (Some xs) first =
    let none : 0 ≡ 0 * s.bytes_per_sample = omega arith in
    (ap (λ n. drop n xs) none, none_showable s xs, sym (append-nil first))

pub none_shown : (s : WavSpecEx) (k : ℕ) (left old : Option (List ℕ)) (first : List ℕ) → k ≡ 0
    → Shown s k left left old old first first
none_shown s k left old first none =
    subst (λ n. Shown s n left left old old first first) (sym none) (first, none_read s left first, gets-none old first)

one_read : {A : Type 0} (s : WavSpecEx) (k : ℕ) (rejection : Option ReadRejection)
    (meaning : List ℕ → A) (line : A → List ℕ) (value : A)
    (left now next : Option (List ℕ)) (first text : List ℕ) → rejection ≡ show_rejection s
    → ((c : List ℕ) → line (meaning c) ≡ sample_line s c) → ReadAs s k left now first text
    → Reads rejection meaning s.bytes_per_sample now next (Ok value)
    → ReadAs s (k + 1) left next first (text ++ line value)
one_read s k (Some rejection) meaning line value left now next first text same as_line so_far read =
    let h = read.0 in absurd (cc h)
one_read s k None meaning line value None now next first text same as_line so_far read = tt
one_read s k None meaning line value (Some xs) None next first text same as_line so_far read = absurd so_far
one_read s k None meaning line value (Some xs) (Some ys) None first text same as_line so_far read = absurd read
one_read s k None meaning line value (Some xs) (Some ys) (Some zs) first text same as_line (left_is, showable, text_is)
    (whole, is, rest) =
    let w = s.bytes_per_sample in
    let there = showable.there in
    let size : length ys ≡ length (drop (k * w) xs) = ap length left_is in
    let sized = length-drop (k * w) xs in
    let on : k * w + w ≡ (k + 1) * w = omega arith in
    let next_count : suc k ≡ k + 1 = omega arith in (
      rest ∙ ap (drop w) left_is ∙ drop-drop w (k * w) xs ∙ ap (λ n. drop n xs) on,
      record { there = omega (arith, there, size, sized, whole, on); shown = λ some. sym same },
      ap (λ l. l ++ line value) text_is ∙ append_assoc first (sample_lines s k xs) (line value)
          ∙ ap (λ l. first ++ (sample_lines s k xs ++ l)) (ap line is ∙ as_line (take w ys)
          ∙ ap (λ b. sample_line s (take w b)) left_is)
          ∙ ap (λ l. first ++ l) (sym (lines-more s k xs) ∙ ap (λ n. sample_lines s n xs) next_count),
    )

-- what a reader over bytes is at, once so many samples were read
record IsAt (s : WavSpecEx) (n k : ℕ) (reading : ReaderState (Option (List ℕ))) : Type 0 where
  spec_is : reading.spec_ex ≡ s
  samples_are : reading.num_samples ≡ n
  read_are : reading.samples_read ≡ k

-- A block: values, and then what came after them.
module _ {A : Type 0} (rejection : SampleFormat → ℕ → ℕ → Option ReadRejection)
    (meaning : SampleFormat → ℕ → ℕ → List ℕ → A) (line : A → List ℕ) (s : WavSpecEx) (n : ℕ)
    (left : Option (List ℕ)) (first : List ℕ)
    (same : rejection_at rejection s ≡ show_rejection s)
    (as_line : (c : List ℕ) → line (meaning_at meaning s c) ≡ sample_line s c) where
  -- this comes after values that were read
  abbrev After : ℕ → List ℕ → List (Result A Error) → ReaderState (Option (List ℕ)) → Type 0
  After k text tail new = (mid : ReaderState (Option (List ℕ))) × IsAt s n k mid × (k ≤ n)
      × ReadAs s k left mid.reader first text
      × GivesItems (λ (bytes : Option (List ℕ)). bytes) rejection meaning tail mid new

  values_read : (values : List A) (tail : List (Result A Error)) (k : ℕ) (text : List ℕ)
      (old new : ReaderState (Option (List ℕ))) → k ≤ n → IsAt s n k old → ReadAs s k left old.reader first text
      → GivesItems (λ (bytes : Option (List ℕ)). bytes) rejection meaning (map Ok values ++ tail) old new
      → After (k + length values) (text ++ flat_map line values) tail new
  values_read [] tail k text old new within at read gives =
      let none : k ≡ k + 0 = omega arith in (
        old,
        subst (λ m. IsAt s n m old) none at,
        omega (arith, within),
        subst (λ m. ReadAs s m left old.reader first (text ++ [])) none
            (subst (ReadAs s k left old.reader first) (sym (append-nil text)) read),
        gives,
      )
  values_read (value ∷ values) tail k text old new within at read (mid, item, gives) =
      let more : k + 1 + length values ≡ k + suc (length values) = omega arith in
      let here : ReadAs s (k + 1) left mid.reader first (text ++ line value) =
      one_read s k (rejection_at rejection s) (meaning_at meaning s) line value left old.reader mid.reader
      first text same as_line read
      (subst (λ u. Reads (rejection_at rejection u) (meaning_at meaning u) u.bytes_per_sample old.reader mid.reader
      (Ok value)) at.spec_is item.read) in
      let (last, is_at, inside, all, rest) = values_read values tail (k + 1) (text ++ line value) mid new
      (omega (arith, item.inside, at.samples_are, at.read_are))
      (record {
        spec_is = item.spec_ex ∙ at.spec_is;
        samples_are = item.num_samples ∙ at.samples_are;
        read_are = item.counted ∙ ap (λ m. m + 1) at.read_are;
      }) here gives in (
        last,
        subst (λ m. IsAt s n m last) more is_at,
        omega (arith, inside, more),
        subst (λ m. ReadAs s m left last.reader first (text ++ (line value ++ flat_map line values))) more
            (subst (ReadAs s (k + 1 + length values) left last.reader first)
            (append_assoc text (line value) (flat_map line values)) all),
        rest,
      )

-- all of them
pub all_shown : (s : WavSpecEx) (k count : ℕ) (left now old new : Option (List ℕ)) (first lines : List ℕ) → k ≡ count
    → Shown s k left now old new first lines → ShowsSamples s count left old new first lines
all_shown s k count None now old new first lines all shown = tt
all_shown s k count (Some xs) None old new first lines all (text, read, got) = absurd read
all_shown s k count (Some xs) (Some ys) old new first lines all (text, (left_is, showable, text_is), got) =
    subst (λ n. AreShowable s n xs × GetsBuffered old new lines (first ++ sample_lines s n xs)) all
    (showable, subst (GetsBuffered old new lines) text_is got)

-- ---- where the samples are not all shown

-- the lines of samples that were read are a part
read_part : (s : WavSpecEx) (k count : ℕ) (left now old new : Option (List ℕ)) (first text lines : List ℕ)
    → k ≤ count → ReadAs s k left now first text → GetsBuffered old new lines text
    → StopsSamples s count InputOrOutput left old new first lines
read_part s k count None now old new first text lines within read got = tt
read_part s k count (Some xs) None old new first text lines within read got = absurd read
read_part s k count (Some xs) (Some ys) old new first text lines within (left_is, showable, text_is) got =
    (text, (k, within, showable, starts_with_of_eq _ text (sym text_is)), got)

-- and the buffer could not be written
pub part_stops : (s : WavSpecEx) (n : ℕ) (left out0 out1 out2 : Option (List ℕ)) (first last : List ℕ)
    → StopsSamples s n InputOrOutput left out0 out1 first last → GetsBeginning out1 out2 last
    → StopsSamples s n InputOrOutput left out0 out2 first []
part_stops s n left out0 out1 out2 first last stops part =
    IfSome_then left stops (λ bytes (text, (k, within, showable, front), gets).
    let (written, beginning, all) = gets-stopped out0 out1 out2 text last gets part in (
      written,
      (k, within, showable, starts_with_trans (first ++ sample_lines s k bytes) text written front beginning),
      (written, sym (append-nil written), all),
    ))

whole_stops : (s : WavSpecEx) (n : ℕ) (bytes first text : List ℕ) → AreShowable s n bytes
    → text ≡ first ++ sample_lines s n bytes → IsTextUntil s n InputOrOutput bytes first text
whole_stops s n bytes first text showable text_is =
    (n, omega arith, showable, starts_with_of_eq _ text (sym text_is))

faulted : (s : WavSpecEx) (n : ℕ) (failure : CommandError) (bytes first text : List ℕ)
    → IsTextUntil s n failure bytes first text → IsTextUntil s n InputOrOutput bytes first text
faulted s n BadNumber bytes first text stops = absurd stops
faulted s n InputOrOutput bytes first text stops = stops
faulted s n (Rejected e) bytes first text (some, rejected, text_is) =
    (0, omega arith, none_showable s bytes, starts_with_of_eq _ text (append-nil first ∙ sym text_is))

-- a fault, whatever was returned before it
pub stopped : (s : WavSpecEx) (n : ℕ) (result : Result (Unit {0}) CommandError) (left old new : Option (List ℕ))
    (first last : List ℕ)
    → ReportsSamples s n result left old new first last → StopsSamples s n InputOrOutput left old new first last
stopped s n (Ok x) left old new first last shown =
    IfSome_then left shown (λ bytes (showable, got). (
      first ++ sample_lines s n bytes,
      whole_stops s n bytes first (first ++ sample_lines s n bytes) showable refl,
      got,
    ))
stopped s n (Err failure) left old new first last stops =
    IfSome_then left stops
    (λ bytes (text, here, got). (text, faulted s n failure bytes first text here, got))

-- the failure that `?` returns
pub stops_as : (s : WavSpecEx) (n : ℕ) (result : Result (Unit {0}) CommandError) (failure : CommandError)
    (left old new : Option (List ℕ)) (first last : List ℕ) → IsErrAnd result (λ e. e ≡ failure)
    → StopsSamples s n failure left old new first last → ReportsSamples s n result left old new first last
stops_as s n (Ok x) failure left old new first last is stops = absurd is
stops_as s n (Err e) failure left old new first last is stops =
    subst (λ f. StopsSamples s n f left old new first last) (sym is) stops

-- a read that failed: a fault, or a spec whose samples are not shown
read_stops : {A : Type 0} (s : WavSpecEx) (k count : ℕ) (rejection : Option ReadRejection) (meaning : List ℕ → A)
    (error : Error) (left now next old new : Option (List ℕ)) (first text lines : List ℕ) → k < count
    → rejection ≡ show_rejection s → ReadAs s k left now first text → GetsBuffered old new lines text
    → Reads rejection meaning s.bytes_per_sample now next (Err error)
    → StopsSamples s count (failure_of error) left old new first lines
read_stops s k count rejection meaning error None now next old new first text lines within same shown got read = tt
read_stops s k count rejection meaning error (Some xs) None next old new first text lines within same shown got read =
    absurd shown
read_stops s (suc k) count (Some rejection) meaning error (Some xs) (Some ys) next old new first text lines within same
    (left_is, showable, text_is) got read =
    let none = showable.shown (omega arith) in absurd (cc (same, none))
read_stops {A} s zero count (Some rejection) meaning error (Some xs) (Some ys) next old new first text lines within same
    (left_is, showable, text_is) got read =
    let is : error ≡ error_of_read rejection = let h = read.0 in cc h in
    subst (λ e. (text : List ℕ) × IsTextUntil s count (failure_of e) xs first text × GetsBuffered old new lines text)
    (sym is)
    (first, of rejection (sym same), subst (GetsBuffered old new lines) (text_is ∙ append-nil first) got)
  where
    of : (r : ReadRejection) → show_rejection s ≡ Some r
        → IsTextUntil s count (failure_of (error_of_read r)) xs first first
    of other_format shows = (within, (other_format, shows, refl), refl)
    of (misfit too_wide) shows = (within, (misfit too_wide, shows, refl), refl)
    of (misfit unsupported) shows = (within, (misfit unsupported, shows, refl), refl)
read_stops s k count None meaning (errors.IoError e) (Some xs) (Some ys) next old new first text lines within same shown
    got read =
    read_part s k count (Some xs) (Some ys) old new first text lines (omega (arith, within)) shown got
read_stops s k count None meaning _ (Some xs) (Some ys) next old new first text lines within same shown got read =
    absurd read

-- ---- a block of samples: the lines of what was read are pushed, and then comes the error

module _ {A : Type 0} (rejection : SampleFormat → ℕ → ℕ → Option ReadRejection)
    (meaning : SampleFormat → ℕ → ℕ → List ℕ → A) (line : A → List ℕ) (s : WavSpecEx) (n k : ℕ)
    (left out0 out1 : Option (List ℕ)) (first lines : List ℕ) (values : List A)
    (result : Result (Unit {0}) Error) (old new : ReaderState (Option (List ℕ)))
    (same : rejection_at rejection s ≡ show_rejection s)
    (as_line : (c : List ℕ) → line (meaning_at meaning s c) ≡ sample_line s c)
    (spec_is : old.spec_ex ≡ s) (samples_are : old.num_samples ≡ n) (read_are : old.samples_read ≡ k)
    (within : k ≤ n) (shown : Shown s k left old.reader out0 out1 first lines)
    (gives : GivesItems (λ (bytes : Option (List ℕ)). bytes) rejection meaning (items_of values result) old new) where
  at_start : IsAt s n k old
  at_start = record { spec_is = spec_is; samples_are = samples_are; read_are = read_are }

  abbrev tail_of : Result (Unit {0}) Error → List (Result A Error)
  tail_of (Ok x) = []
  tail_of (Err error) = Err error ∷ []

  items_are : (r : Result (Unit {0}) Error) → items_of values r ≡ map Ok values ++ tail_of r
  items_are (Ok x) = sym (append-nil (map Ok values))
  items_are (Err error) = refl

  -- the values were read
  after : After rejection meaning line s n left first same as_line (k + length values)
      (shown.0 ++ flat_map line values) (tail_of result) new
  after =
      values_read rejection meaning line s n left first same as_line values (tail_of result) k shown.0
      old new within at_start shown.1
      (subst (λ items. GivesItems (λ (bytes : Option (List ℕ)). bytes) rejection meaning items old new)
      (items_are result) gives)

  -- their lines are buffered
  buffered : GetsBuffered out0 out1 (lines ++ flat_map line values) (shown.0 ++ flat_map line values)
  buffered = gets-more out0 out1 shown.0 lines (flat_map line values) shown.2

  -- they can't all be written
  pub block_stops : (out2 : Option (List ℕ)) (room : List ℕ)
      → GetsBeginning out1 out2 (lines ++ flat_map line values) × (room ≡ [])
      → StopsSamples s n InputOrOutput left out0 out2 first room
  block_stops out2 room (stopped, emptied) =
      let (mid, at, inside, read, rest) = after in
      subst (StopsSamples s n InputOrOutput left out0 out2 first) (sym emptied)
      (part_stops s n left out0 out1 out2 first (lines ++ flat_map line values)
      (read_part s (k + length values) n left mid.reader out0 out1 first
      (shown.0 ++ flat_map line values) (lines ++ flat_map line values) inside read buffered) stopped)

  -- they are, and then comes an error
  pub block_fails : (out2 : Option (List ℕ)) (room : List ℕ) (error : Error) → result ≡ Err error
      → GetsBuffered out1 out2 room (lines ++ flat_map line values)
      → StopsSamples s n (failure_of error) left out0 out2 first room
  block_fails out2 room error is pushed =
      let (mid, at, inside, read, tail) = after in
      let (last, item, rest) =
      subst (λ r. GivesItems (λ (bytes : Option (List ℕ)). bytes) rejection meaning (tail_of r) mid new) is tail in
      read_stops s (k + length values) n (rejection_at rejection s) (meaning_at meaning s) error left mid.reader
      last.reader
      out0 out2 first (shown.0 ++ flat_map line values) room
      (omega (arith, item.inside, at.samples_are, at.read_are)) same read
      (gets-then out0 out1 out2 (shown.0 ++ flat_map line values) (lines ++ flat_map line values) room buffered pushed)
      (subst (λ u. Reads (rejection_at rejection u) (meaning_at meaning u) u.bytes_per_sample mid.reader last.reader
      (Err error)) at.spec_is item.read)

  -- they are, and that is the block
  pub block_shown : (x : Unit {0}) (out2 : Option (List ℕ)) (room : List ℕ) → result ≡ Ok x
      → GetsBuffered out1 out2 room (lines ++ flat_map line values)
      → Shown s (k + length values) left new.reader out0 out2 first room
      × (new.spec_ex ≡ s) × (new.num_samples ≡ n) × (new.samples_read ≡ k + length values) × (k + length values ≤ n)
  block_shown x out2 room is pushed =
      let (mid, at, inside, read, tail) = after in
      let ends : new ≡ mid =
      subst (λ r. GivesItems (λ (bytes : Option (List ℕ)). bytes) rejection meaning (tail_of r) mid new) is tail in (
        (
          shown.0 ++ flat_map line values,
          subst (λ (r : ReaderState (Option (List ℕ))). ReadAs s (k + length values) left r.reader first
              (shown.0 ++ flat_map line values)) (sym ends) read,
          gets-then out0 out1 out2 (shown.0 ++ flat_map line values) (lines ++ flat_map line values) room buffered
              pushed,
        ),
        ap (λ (r : ReaderState (Option (List ℕ))). r.spec_ex) ends ∙ at.spec_is,
        ap (λ (r : ReaderState (Option (List ℕ))). r.num_samples) ends ∙ at.samples_are,
        ap (λ (r : ReaderState (Option (List ℕ))). r.samples_read) ends ∙ at.read_are,
        inside,
      )

-- ---- a file

-- nothing is written yet where the head is rejected
pub head_stops : (input out : Option (List ℕ)) (error : Error) → IfSome input (λ xs. IsRejection error (Unreadable xs))
    → ShowsUntil input (failure_of error) out out
head_stops None out error rejected = tt
head_stops (Some xs) out (errors.IoError e) rejected = ([], inl (tt, refl), appends-none out)
head_stops (Some xs) out (errors.FormatError e) (reason, unreadable, words) =
    ([], inl ((causes.Format reason, unreadable, (reason, refl, words)), refl), appends-none out)
head_stops (Some xs) out errors.Unsupported rejected =
    ([], inl ((causes.Unsupported, rejected, refl), refl), appends-none out)
head_stops (Some xs) out _ rejected = absurd rejected

-- the head of a readable file was taken, and the samples are left
abbrev Opened : Option (List ℕ) → Option (List ℕ) → WavSpecEx → ℕ → Type 0
Opened input left s n = WhereKnown input left (λ xs ys. (h : ℕ) × Readable xs s n h × (ys ≡ drop h xs))

-- all samples are shown, and the buffer was written
pub file_shown : (input left : Option (List ℕ)) (s : WavSpecEx) (n : ℕ) (spec : WavSpec)
    (samples : ℕ) (out0 out1 out2 : Option (List ℕ)) (head first last : List ℕ)
    → spec ≡ s.spec → samples ≡ n → Opened input left s n → head ≡ [] → first ≡ head ++ spec_line spec samples
    → ShowsSamples s n left out0 out1 first last → Appends out1 out2 last → Shows input out0 out2
file_shown None left s n spec samples out0 out1 out2 head first last spec_is samples_is found none line shown written =
    tt
file_shown (Some xs) None s n spec samples out0 out1 out2 head first last spec_is samples_is found none line shown
    written = absurd found
file_shown (Some xs) (Some ys) s n spec samples out0 out1 out2 head first last spec_is samples_is (h, readable, left_is)
    none line shown written =
    let first_is : first ≡ spec_line s.spec n = line ∙ ap (λ l. l ++ spec_line spec samples) none
    ∙ ap (spec_line spec) samples_is ∙ ap (λ p. spec_line p n) spec_is in
    let (showable, text) = subst (λ b. AreShowable s n b × GetsBuffered out0 out1 last (first ++ sample_lines s n b))
    left_is shown in (
      first ++ sample_lines s n (drop h xs),
      record {
        s = s;
        samples = n;
        start = h;
        readable = readable;
        showable = showable;
        text_is =
            ap (λ l. l ++ sample_lines s n (drop h xs)) first_is;
      },
      gets-written out0 out1 out2 (first ++ sample_lines s n (drop h xs)) last text written,
    )

-- the samples are not all shown, and the buffer was written
pub file_stops : (input left : Option (List ℕ)) (s : WavSpecEx) (n : ℕ) (failure : CommandError) (spec : WavSpec)
    (samples : ℕ) (out0 out1 out2 : Option (List ℕ)) (head first last : List ℕ)
    → spec ≡ s.spec → samples ≡ n → Opened input left s n → head ≡ [] → first ≡ head ++ spec_line spec samples
    → StopsSamples s n failure left out0 out1 first last → Appends out1 out2 last → ShowsUntil input failure out0 out2
file_stops None left s n failure spec samples out0 out1 out2 head first last spec_is samples_is found none line stops
    written = tt
file_stops (Some xs) None s n failure spec samples out0 out1 out2 head first last spec_is samples_is found none line
    stops written = absurd found
file_stops (Some xs) (Some ys) s n failure spec samples out0 out1 out2 head first last spec_is samples_is
    (h, readable, left_is) none line (text, stops, gets) written =
    let first_is : first ≡ spec_line s.spec n = line ∙ ap (λ l. l ++ spec_line spec samples) none
    ∙ ap (spec_line spec) samples_is ∙ ap (λ p. spec_line p n) spec_is in (
      text,
      inr (record {
        s = s;
        samples = n;
        start = h;
        readable = readable;
        stops = subst (λ b. IsTextUntil s n failure b (spec_line s.spec n) text) left_is
            (subst (λ l. IsTextUntil s n failure ys l text) first_is stops);
      }),
      gets-written out0 out1 out2 text last gets written,
    )

-- the failure that `?` returns
pub err_is : {T : Type 0} (Q : CommandError → Type 0) (result : Result T CommandError) (failure : CommandError)
    → IsErrAnd result (λ e. e ≡ failure) → Q failure → IfErr result Q
err_is Q (Ok x) failure is holds = absurd is
err_is Q (Err e) failure is holds = subst Q (sym is) holds
