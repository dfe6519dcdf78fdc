pub mod ConfirmLaws
