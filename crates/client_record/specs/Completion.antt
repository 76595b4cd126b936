-- Document 02, R-3: the completion test as one sum over fragments of which none contradicts another.
use Rattle.std.specs.Prelude.{◌≡◌, true, false, List, eqb}
use Rattle.client_record.specs.declared.Fragment.{Fragment}
use Rattle.client_record.specs.Lists.{any, sum}
use Rattle.client_record.specs.Record.{is_last, end, last_of, whole}

pub record BySum (fs : List Fragment) : Type 0 where
  -- "their lengths summed and compared with the known end give the same yes or no"
  pub known_end : any is_last fs ≡ true → whole fs ≡ eqb (sum (λ f. f.length) fs) (end (last_of fs))
  -- "without a last piece the answer is no"
  pub no_last : any is_last fs ≡ false → whole fs ≡ false
