-- The buffer that holds the front of an input, and what is said of the whole input by looking at its front alone.
use Rattle.std.specs.Prelude.{◌≡◌, Bool, not, List, ℕ, min, eqb, ℤ, length, take}
use Rattle.io.specs.Counts.{IsPrefixLen}
use Rattle.rules.specs.File.{file_refusal}
use Rattle.shell.specs.Status.{status_of, OrFailed}
use Rattle.advice.specs.File.{file_why}
use Rattle.printing.specs.Lines.{print_text, worded_print}

-- a buffer holds the front of an input: all of it, or as much as the buffer takes
pub record Front (input buffer : List ℕ) (filled : ℕ) : Type 0 where
  pub most : filled ≡ min (length input) (length buffer)
  pub same : take filled buffer ≡ take filled input

-- a file is read for the whole input, whatever stands behind its front: it is refused as the input is, for the same cause, and where it is not, it is the input
pub record Fronted (buffer : List ℕ) (filled : ℕ) (file : List ℕ) : Type 0 where
  pub is : file ≡ take filled buffer
  pub refusal : (input : List ℕ) → Front input buffer filled → file_refusal file ≡ file_refusal input
  pub why : (input : List ℕ) → Front input buffer filled → file_why file ≡ file_why input
  pub whole : (input : List ℕ) → Front input buffer filled → file_refusal file ≡ 0 → file ≡ input

-- the first `end` bytes of a buffer are what a program prints for the whole input
pub record WholePrinted (body : List ℕ → List ℕ) (buffer : List ℕ) (filled : ℕ) (out : List ℕ) (end : ℕ) : Type 0 where
  pub counts : IsPrefixLen end out
  pub stands : (input : List ℕ) → Front input buffer filled → take end out ≡ print_text body input

-- whether the whole input is refused
pub record WholeRefused (buffer : List ℕ) (filled : ℕ) (r : Bool) : Type 0 where
  pub tells : (input : List ℕ) → Front input buffer filled → r ≡ not (eqb (file_refusal input) 0)

-- the same where words are asked for
pub record WholeWorded (words : Bool) (body : List ℕ → List ℕ) (buffer : List ℕ) (filled : ℕ) (out : List ℕ) (end : ℕ) : Type 0 where
  pub counts : IsPrefixLen end out
  pub stands : (input : List ℕ) → Front input buffer filled → take end out ≡ worded_print words body input

-- how a program ends that prints the input: by whether it is refused
pub record WholeEnds (buffer : List ℕ) (filled : ℕ) (r : ℤ) : Type 0 where
  pub ends : (input : List ℕ) → Front input buffer filled → OrFailed (status_of (not (eqb (file_refusal input) 0))) r
