-- Content is a message exactly where it fits.
use Rattle.std.proofs.Common.{◌≡◌, IsTrue, true, nat_le}
use Rattle.std.proofs.lemmas.Bool.{and_parts, and_from, leb-true, le-leb}
use Rattle.rsvp_contents.specs.declared.messages.Content.{Content}
use Rattle.rsvp_contents.specs.declared.messages.Content.TheVariants as contents
use Rattle.rsvp_contents.specs.declared.message.Reading.TheVariants as readings
use Rattle.rsvp_contents.specs.Fitting.{fits_parts, written_len, fits_content}
use Rattle.rsvp_contents.specs.Spelling.{IsMessage}
use Rattle.rsvp_contents.specs.Written.{objects_of, type_of}
use Rattle.rsvp_contents.proofs.Again.{SaysAgain, read_again}
pub use Rattle.rsvp_contents.proofs.PathAgain.{parts_of}
use Rattle.rsvp_contents.proofs.PathAgain.{path_again, path_err_again, path_tear_again}
use Rattle.rsvp_contents.proofs.ResvAgain.{resv_again, resv_err_again, resv_tear_again}
use Rattle.rsvp_contents.proofs.Said.{read_is_said}

-- what fits is read again
fits_again : (content : Content) → fits_parts content ≡ true → SaysAgain (type_of content) (objects_of content) content
fits_again (contents.Path p) h = path_again p h
fits_again (contents.Resv r) h = resv_again r h
fits_again (contents.PathErr e) h = path_err_again e
fits_again (contents.ResvErr e) h = resv_err_again e h
fits_again (contents.PathTear t) h = path_tear_again t
fits_again (contents.ResvTear t) h = resv_tear_again t h

-- a message fits
pub message_fits : (content : Content) → IsMessage content → IsTrue (fits_content content)
message_fits content is =
    and_from (fits_parts content) (nat_le (written_len content) 4096)
    (read_is_said (type_of content) (objects_of content) (readings.Whole content) is.again).fits
    (le-leb (written_len content) 4096 is.size)

-- and what fits is one
pub fits_message : (content : Content) → IsTrue (fits_content content) → IsMessage content
fits_message content h =
    let parts = and_parts (fits_parts content) (nat_le (written_len content) 4096) h in
    record {
      size = leb-true (written_len content) 4096 parts.1;
      again = read_again (type_of content) (objects_of content) content (fits_again content parts.0);
    }

-- so does what is read, where it is short
pub said_message : (content : Content) → fits_parts content ≡ true → IsTrue (nat_le (written_len content) 4096) → IsMessage content
said_message content parts short = fits_message content (and_from (fits_parts content) (nat_le (written_len content) 4096) parts short)
