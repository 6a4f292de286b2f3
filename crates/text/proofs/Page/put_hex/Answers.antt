use Rattle.text.proofs.Page.put_hex.Goals as goal

pub returns : goal.returns
returns c = let d = c in simp (d.hex_digit-2.ensures, d.hex_digit.ensures) at d.put.ensures
