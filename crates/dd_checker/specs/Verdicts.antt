-- What the verdict on an answer says.
use Rattle.std.specs.Prelude.{◌≡◌, ◌↔◌, ℕ}
use Rattle.dd_certificate.specs.declared.answer.Answer.{Answer}
use Rattle.dd_script.specs.Parts.{Parts}
use Rattle.dd_checker.specs.{declared.verdict.Verdict.Verdict, declared.verdict.Verdict.TheVariants.Accepted, Certificates.IsCertificate}
use Rattle.dd_checker.specs.Claims.{Claim}

-- `verdict` is the right verdict on an answer to the query with this number, counted from 1 (0 counts as 1).
pub record IsVerdictOn (s : Parts) (number : ℕ) (a : Answer) (verdict : Verdict) : Type 0 where
  -- The answer is accepted exactly when it is a certificate.
  pub exact : (verdict ≡ Accepted) ↔ IsCertificate s number a
  -- What an accepted answer claims is true.
  pub claim : verdict ≡ Accepted → Claim s number a
