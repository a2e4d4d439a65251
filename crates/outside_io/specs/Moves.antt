use Rattle.std.specs.Prelude.{◌≡◌, ℕ, ◌+◌, ◌<◌, ◌≤◌, List, ◌++◌, length, Option}
use Rattle.std.specs.Io.KnownBytes.{Appends, Consumes}
use Rattle.outside_io.specs.Counts.{CountRose}
use Rattle.outside_io.specs.declared.whole.ReadEnd.{ReadEnd}
use Rattle.outside_io.specs.declared.whole.ReadEnd.TheVariants.{Failed, TooLarge, NoMemory}

-- the first bytes that were left were taken, at most `most` of them and maybe none
abbrev pub ConsumesAtMost : Option (List ℕ) → Option (List ℕ) → ℕ → Type 0
ConsumesAtMost old new most = (bytes : List ℕ) × (length bytes ≤ most) × Consumes old new bytes

-- the first bytes that were left were taken, more than `most` of them and at most `piece` more than that
abbrev pub ConsumesPast : Option (List ℕ) → Option (List ℕ) → ℕ → ℕ → Type 0
ConsumesPast old new most piece =
    (bytes : List ℕ) × (most < length bytes) × (length bytes ≤ most + piece) × Consumes old new bytes

-- what a reading that gives no bytes took from a source: at most `most` before a read failed or memory ran out, and else more
-- than `most`, by at most a `piece`, where that is too many
abbrev pub EndsEarly : Option (List ℕ) → Option (List ℕ) → ℕ → ℕ → ℕ → ℕ → ReadEnd → Type 0
EndsEarly old new faults faults_now most piece Failed = CountRose faults faults_now × ConsumesAtMost old new most
EndsEarly old new faults faults_now most piece TooLarge = ConsumesPast old new most piece
EndsEarly old new faults faults_now most piece NoMemory = ConsumesAtMost old new most

-- a proper prefix of the bytes was appended: a front of them, maybe empty, and not the whole
abbrev pub AppendsProperPrefix : Option (List ℕ) → Option (List ℕ) → List ℕ → Type 0
AppendsProperPrefix old new bytes =
    (front : List ℕ) × (rest : List ℕ) × (front ++ rest ≡ bytes) × (0 < length rest) × Appends old new front
