use Rattle.std.proofs.Common.{◌∙◌, string_bytes}
use Rattle.mx_picture.proofs.PictureLemmas.{page_is, titled}
use Rattle.mx_picture.proofs.page.page_of.Goals as goal

pub returns : goal.returns
returns c =
    titled _ _ _ (c.as_str.ensures.value ∙ c.in_ok-second.ensures)
    (page_is c.as_str.result.now c.in_ok-body.body.frame c.as_str-2.result.now
    (string_bytes c.new-text.result) (string_bytes c.write.new.self) (string_bytes c.push_str.new.self) (string_bytes c.push_str-2.new.self) (string_bytes c.push_str-3.new.self)
    c.new-text.ensures.bytes c.in_ok-write.ensures.bytes c.in_ok-push_str.ensures.bytes c.in_ok-push_str-2.ensures.bytes c.in_ok-push_str-3.ensures.bytes)
