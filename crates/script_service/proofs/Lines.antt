-- The lines behind the replies, and those of the demonstration.
use Rattle.std.proofs.Common.{◌≡◌, ◌≢◌, ℕ, List, [], ◌∷◌, ◌++◌, length, refl, ap, arith, true, false}
use Rattle.std.specs.Prelude.{All, ◌==◌}
use Rattle.std.proofs.lemmas.List.Elements.{All-head, All-tail}
use Rattle.std.proofs.lemmas.Bool.Decides.{nat_tests}
use Rattle.script_reader.specs.declared.script.ClientScript.{ClientScript}
use Rattle.reply_text.specs.declared.reply.Reply.{Reply}
use Rattle.script_service.specs.Endings.{share_lines}
use Rattle.script_service.specs.Demos.{bytes_before, bytes_after, export_words, last_words, demo_text}

same_byte : (n : ℕ) → (n == n) ≡ true
same_byte n = grind (arith, nat_tests)

other_byte : (m n : ℕ) → m ≢ n → (m == n) ≡ false
other_byte m n h = grind (arith, nat_tests)

pub before_cut : (at : ℕ) (front rest : List ℕ) → All (λ b. b ≢ at) front → bytes_before at (front ++ at ∷ rest) ≡ front
before_cut at [] rest h = rw (same_byte at) refl
before_cut at (b ∷ front) rest h =
    rw (other_byte b at (All-head (λ x. x ≢ at) b front h)) (ap (λ (l : List ℕ). b ∷ l) (before_cut at front rest (All-tail (λ x. x ≢ at) b front h)))

pub behind_cut : (at : ℕ) (front rest : List ℕ) → All (λ b. b ≢ at) front → bytes_after at (front ++ at ∷ rest) ≡ rest
behind_cut at [] rest h = rw (same_byte at) refl
behind_cut at (b ∷ front) rest h =
    rw (other_byte b at (All-head (λ x. x ≢ at) b front h)) (behind_cut at front rest (All-tail (λ x. x ≢ at) b front h))

pub before_all : (at : ℕ) (bytes : List ℕ) → All (λ b. b ≢ at) bytes → bytes_before at bytes ≡ bytes
before_all at [] h = refl
before_all at (b ∷ bytes) h =
    rw (other_byte b at (All-head (λ x. x ≢ at) b bytes h)) (ap (λ (l : List ℕ). b ∷ l) (before_all at bytes (All-tail (λ x. x ≢ at) b bytes h)))

pub behind_all : (at : ℕ) (bytes : List ℕ) → All (λ b. b ≢ at) bytes → bytes_after at bytes ≡ []
behind_all at [] h = refl
behind_all at (b ∷ bytes) h =
    rw (other_byte b at (All-head (λ x. x ≢ at) b bytes h)) (behind_all at bytes (All-tail (λ x. x ≢ at) b bytes h))

pub last_of : (front : List Reply) (r : Reply) → last_words (front ++ r ∷ []) ≡ export_words r
last_of [] r = refl
last_of (q ∷ []) r = refl
last_of (q ∷ (p ∷ front)) r = last_of (p ∷ front) r

pub no_more : (clients : List ClientScript) (left : List (List Reply)) → length left ≡ 0 → demo_text clients left ≡ []
no_more [] left e = refl
no_more (client ∷ clients) [] e = refl
no_more (client ∷ clients) (r ∷ left) e = absurd (omega (arith, e))

pub no_weights : (clients : List ClientScript) (left : List ℕ) → length left ≡ 0 → share_lines clients left ≡ []
no_weights [] left e = refl
no_weights (client ∷ clients) [] e = refl
no_weights (client ∷ clients) (owned ∷ left) e = absurd (omega (arith, e))
